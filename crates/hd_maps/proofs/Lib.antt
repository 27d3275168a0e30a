pub mod NumberedMaps
pub mod ObjectCells
pub mod SeenMaps
pub mod TableCalls
pub mod WeakCalls
pub mod PinnedMaps
pub mod ListBuilds
pub mod AddressIds
