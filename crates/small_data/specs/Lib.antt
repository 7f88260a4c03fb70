pub mod SmallTexts
