pub mod Hand
pub mod Machine
pub mod Dialogue
pub mod Ending
pub mod Inside
