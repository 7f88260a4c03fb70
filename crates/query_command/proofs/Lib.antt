pub mod AskedLaws
pub mod OpeningLaws
pub mod ReportLaws
pub mod AskedReportsLaws
pub mod SizeLaws
pub mod BoardLaws
