pub mod Ready
pub mod Steps
pub mod Collected
pub mod Inside
