pub mod Basics
pub mod StepLiveSlots
pub mod TiedPool
pub mod PoolStep
