pub mod SealLaws
mod HeadLaws
mod NewerLaws
pub mod KeptLaws
pub mod BatchLaws
pub mod CountLaws
mod NewLaws
mod ReadingLaws
mod ReplayLaws
