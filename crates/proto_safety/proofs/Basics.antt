-- Lists, members and tables.
pub mod Lists
pub mod Members
pub mod Prefixes
pub mod Eachs
pub mod Pairs
pub mod Places
pub mod TableKeys
pub mod NumberSplits
