pub mod WeakTable
pub mod Inside
