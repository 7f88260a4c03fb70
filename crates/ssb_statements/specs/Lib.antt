-- what a statement means
pub mod Statement
-- the answers to its questions
pub mod Arranged
-- what is listed of it
pub mod Listing
pub mod SideBySide
pub mod Laws
