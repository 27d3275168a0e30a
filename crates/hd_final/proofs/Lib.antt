pub mod Basics
pub mod ObjectLookup
pub mod QueueRelocate
pub mod SettleSteps
pub mod QueueJoin
pub mod JoinerFind
pub mod QueueRevive
