pub mod Calls
pub mod Disk
pub mod Groups
pub mod Reading
pub mod Promises
pub mod Growing
