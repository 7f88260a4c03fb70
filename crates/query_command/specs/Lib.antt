pub mod Asked
pub mod Reported
pub mod Sizes
pub mod Explained
pub mod Board
pub mod ReportsAsked
pub mod BoardReported
pub mod Statement
