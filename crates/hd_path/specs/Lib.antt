pub mod Chains
pub mod Lines
pub mod Paths
pub mod PathLaws
pub mod Words
pub mod Inside
