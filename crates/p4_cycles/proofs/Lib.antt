mod Floods
mod Falling
