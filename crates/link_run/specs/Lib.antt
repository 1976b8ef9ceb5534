pub mod Datagrams
pub mod Answering
