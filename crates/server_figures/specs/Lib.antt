pub mod RefusedText
pub mod MetricsText
pub mod StatusText
pub mod Laws
