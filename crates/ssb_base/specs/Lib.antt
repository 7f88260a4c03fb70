-- what a base is
pub mod Base
pub mod Limits
-- how the code keeps it, and what it answers
pub mod Views
pub mod Bits
pub mod Places
pub mod Indexed
pub mod Checked
pub mod BaseNew
