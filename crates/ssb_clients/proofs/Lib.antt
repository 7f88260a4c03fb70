pub mod RefreshingLaws
pub mod PollingLaws
pub mod FetchingLaws
pub mod StayingLaws
