pub mod Status
pub mod Moments
pub mod Shipped
