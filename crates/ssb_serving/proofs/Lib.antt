pub mod ListLaws
pub mod PlaceLaws
pub mod MemberLaws
mod StreamLaws
