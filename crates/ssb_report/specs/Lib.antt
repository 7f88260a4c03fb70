pub mod AnswerText
pub mod RefreshText
pub mod OrderText
pub mod Replies
pub mod Report
pub mod StatementText
pub mod OverviewText
pub mod Laws
