pub mod Basics
pub mod DueHandles
pub mod DependentClear
pub mod SecondarySpread
pub mod RescanPasses
pub mod WaitingLists
pub mod SecondaryFollow
