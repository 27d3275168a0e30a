pub mod Pool
pub mod Inside
