pub mod Hand
pub mod Deeds
pub mod Turns
pub mod Passes
pub mod Ends
pub mod Ready
pub mod Opening
