pub mod OnceLaws
pub mod StandingLaws
pub mod MergeLaws
pub mod PassLaws
pub mod KeptLaws
