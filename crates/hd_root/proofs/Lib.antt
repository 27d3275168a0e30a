pub mod LinkLists
pub mod LinkRows
pub mod TargetLists
pub mod AnchorStarts
pub mod ChainRoom
pub mod SearchEnd
