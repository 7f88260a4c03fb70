mod FirstLaws
mod KeptLaws
pub mod ListingLaws
mod OrderLaws
mod SideLaws
mod StarLaws
