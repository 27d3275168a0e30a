pub mod Basics
pub mod SetMembers
pub mod Searches
pub mod MaskMembers
pub mod MaskGaps
pub mod TierMembers
