pub mod Alone
pub mod Sessions
pub mod Traces
pub mod Run
pub mod Served
pub mod Status
pub mod Demo
pub mod TraceFiles
