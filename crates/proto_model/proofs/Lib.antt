-- What a step of a replica changes, and what the choice of its row says of it.
pub mod StoreFits
pub mod StoreStands
