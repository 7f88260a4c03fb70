pub mod FileDisk
pub mod Missing
pub mod Parts
pub mod Watched
