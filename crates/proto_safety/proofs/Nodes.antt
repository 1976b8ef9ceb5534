-- The tables of rows, and what nodes say in what they send.
pub mod SwitchTable
pub mod StoreTable
pub mod SwitchWas
pub mod SwitchNodes
pub mod NodesSay
pub mod SwitchSays
pub mod SwitchSends
pub mod StoreSends
pub mod SentLimits
pub mod WorldSays
