pub mod FirstLaws
pub mod LegalLaws
pub mod VisitLaws
pub mod WalkLaws
pub mod SnapshotLaws
pub mod AnswerLaws
