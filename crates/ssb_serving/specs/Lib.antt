pub mod Members
pub mod RunFaults
pub mod Streams
