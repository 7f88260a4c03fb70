-- what the values are
pub mod Columns
pub mod Texts
pub mod Numerals
pub mod Rows
pub mod Keys
pub mod Facts
pub mod FirstFault
pub mod Orders
pub mod Refreshes
-- how the code keeps them, and what it answers
pub mod Views
pub mod Held
pub mod Kept
pub mod Refusals
