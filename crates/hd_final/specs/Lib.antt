pub mod Queue
pub mod Resurrection
pub mod Settling
pub mod Inside
