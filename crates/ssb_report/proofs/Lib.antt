pub mod RowLaws
pub mod CellLaws
pub mod CommitLaws
pub mod ReplyLaws
