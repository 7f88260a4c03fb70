pub mod CheckLaws
pub mod LimitLaws
pub mod FirstFaultLaws
pub mod OrderLaws
pub mod ColumnLaws
pub mod PartLaws
pub mod DigitLaws
