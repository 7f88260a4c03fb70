pub mod Over
pub mod Spelled
