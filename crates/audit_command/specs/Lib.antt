pub mod Audited
pub mod Status
