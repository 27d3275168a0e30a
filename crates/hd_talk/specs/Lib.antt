pub mod Machine
pub mod Slots
pub mod Answers
pub mod Talked
