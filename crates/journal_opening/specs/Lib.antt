pub mod Marks
pub mod Status
pub mod Kept
pub mod Opens
