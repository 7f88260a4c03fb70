pub mod Chain
pub mod Reads
pub mod Served
pub mod Status
pub mod Steps
pub mod Texts
