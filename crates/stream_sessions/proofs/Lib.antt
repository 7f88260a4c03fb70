pub mod RequestLaws
pub mod MomentLaws
mod LookupLaws
mod SessionRequestLaws
mod FaultTextLaws
mod AnswerLaws
mod PastLaws
mod SessionLaws
mod SpeakingLaws
mod CourseLaws
mod EndLaws
mod ReadingLaws
mod ExchangeLaws
mod WholeScriptLaws
mod AheadLaws
