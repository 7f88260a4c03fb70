pub mod Words
pub mod Members
pub mod Rule
pub mod Plays
pub mod Seats
pub mod Tokens
pub mod Closing
pub mod TokenParts
