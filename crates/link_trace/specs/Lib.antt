pub mod Doings
pub mod Carried
pub mod WorkedDoings
