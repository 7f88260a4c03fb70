pub mod PrintingLaws
pub mod TraceLaws
pub mod AloneLaws
pub mod RunLaws
pub mod DemoLaws
pub mod TraceFileLaws
