pub mod Sets
pub mod Inside
pub mod Limits
