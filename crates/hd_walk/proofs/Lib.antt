pub mod Slices
pub mod TrailAdds
pub mod WalkTurns
pub mod ChainOrders
pub mod WalkChains
pub mod WalkClosures
pub mod NamedChains
pub mod LeastChains
