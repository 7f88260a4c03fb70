pub mod CellLaws
pub mod CsvLaws
pub mod JsonLaws
pub mod ShownLaws
pub mod TextLaws
