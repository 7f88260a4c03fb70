pub mod Stream
pub mod Taken
pub mod Shipped
pub mod Status
