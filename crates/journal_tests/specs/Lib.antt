pub mod DiskCalls
pub mod TearingDisks
pub mod UnreadFiles
pub mod OwnCommits
