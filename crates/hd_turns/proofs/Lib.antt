pub mod Histories
pub mod TableSteps
pub mod GateSteps
