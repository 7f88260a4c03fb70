pub mod Traces
pub mod Legal
pub mod InOrder
pub mod Visits
