pub mod Clearing
pub mod Rescan
pub mod Inside
