-- which tokens a text has
pub mod Lexemes
pub mod Texts
pub mod Words
pub mod Parts
pub mod Tokens
-- the grammar
pub mod Step
pub mod Reading
pub mod Select
-- what follows
pub mod Said
pub mod Meaning
pub mod Laws
pub mod Faults
pub mod FaultNames
pub mod Refusals
