pub mod Seen
pub mod Counts
pub mod Done
pub mod Handles
pub mod Decided
