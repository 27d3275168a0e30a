pub mod Links
pub mod Search
pub mod Chain
pub mod Inside
