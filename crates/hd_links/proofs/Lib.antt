pub mod Members
pub mod ObjectIndexes
pub mod SourceParts
pub mod AttachingLinks
pub mod SeenStates
pub mod SnapshotEdges
pub mod StateEdges
pub mod GraphTargets
