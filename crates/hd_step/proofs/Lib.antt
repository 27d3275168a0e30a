pub mod FirstLines
pub mod Exchanges
pub mod LineSteps
pub mod Talks
