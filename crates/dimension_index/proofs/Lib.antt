pub mod KeyLaws
pub mod CodeLaws
pub mod ColumnLaws
pub mod BitLaws
pub mod ClassLaws
pub mod AlikeLaws
