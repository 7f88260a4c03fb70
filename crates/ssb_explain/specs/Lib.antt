pub mod Texts
-- the question as `star` spells it
pub mod Words
-- the question as a statement of SQL
pub mod Names
pub mod Conditions
pub mod Joins
pub mod Lines
pub mod Statement
-- that the words ask the same
pub mod Laws
