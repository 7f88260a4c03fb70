pub mod FlushedLaws
pub mod ResultLaws
pub mod ScriptLaws
pub mod StandingLaws
pub mod HeadsLaws
