pub mod Object
pub mod Region
pub mod Cells
pub mod Limits
pub mod Headers
pub mod Inside
