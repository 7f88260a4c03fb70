pub mod Status
pub mod Loaded
pub mod Told
pub mod Scripts
pub mod Standing
pub mod Paths
