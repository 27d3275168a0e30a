pub mod Clumps
pub mod Word
pub mod Walk
pub mod Inside
