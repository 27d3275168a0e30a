pub mod Basics
pub mod OffsetLookup
pub mod RegionTiles
pub mod Contents
pub mod CellWrites
pub mod CellWalk
pub mod ObjectStarts
pub mod ClearedCells
