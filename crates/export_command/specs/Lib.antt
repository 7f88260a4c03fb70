pub mod After
pub mod Standing
pub mod Status
pub mod Exported
pub mod Histories
