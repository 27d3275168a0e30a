pub mod Basics
pub mod LeastByKind
pub mod PoolCalls
pub mod WholeBlocks
pub mod MovedLists
