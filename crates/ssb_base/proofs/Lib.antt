pub mod BaseLaws
pub mod PairLaws
pub mod BitLaws
