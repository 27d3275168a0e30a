pub mod Layout
pub mod Plan
pub mod PackedRegions
pub mod Commit
pub mod Inside
