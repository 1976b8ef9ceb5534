pub mod Tables
pub mod KeyTables
pub mod KeyMaps
pub mod KeyPlaces
