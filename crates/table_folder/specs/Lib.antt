pub mod Calls
pub mod Filled
pub mod Noted
pub mod FilesFolder
