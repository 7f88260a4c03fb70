pub mod NoTables
pub mod Rule
pub mod Twin
pub mod Laws
