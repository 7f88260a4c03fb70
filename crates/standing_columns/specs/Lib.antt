pub mod Standing
pub mod Kept
