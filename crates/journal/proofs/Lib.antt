mod DigitLaws
mod GroupLaws
pub mod MomentLaws
mod StepLaws
mod ReadingLaws
mod PromiseLaws
pub mod CallLaws
pub mod GrowingLaws
mod FollowingLaws
