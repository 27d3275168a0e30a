pub mod Basics
pub mod MarkBits
pub mod UnmarkedCount
pub mod MarksInvariant
pub mod MarkPush
pub mod MarkDrain
pub mod CondemnedWalks
