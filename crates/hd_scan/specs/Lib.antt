pub mod Tasks
pub mod Passes
pub mod Whole
pub mod Relocation
pub mod Gathering
pub mod Inside
