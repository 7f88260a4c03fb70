pub mod Counts
pub mod Served
pub mod Deeds
pub mod Fetching
pub mod Ready
pub mod Clients
pub mod Tickets
