pub mod Basics
pub mod HandleClear
pub mod HandleRelocate
pub mod RootPromote
pub mod EntryRanges
pub mod RootLists
pub mod TaskRoles
pub mod JoinedPasses
