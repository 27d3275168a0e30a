pub mod Change
pub mod Tied
