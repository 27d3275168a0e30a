pub mod Graph
pub mod Kept
pub mod Laws
pub mod Marks
pub mod Inside
