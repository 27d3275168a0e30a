pub mod HostHistories
pub mod SharerTurns
pub mod EndLocals
pub mod NewEnds
pub mod EndLists
