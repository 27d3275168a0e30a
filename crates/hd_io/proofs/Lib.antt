pub mod SourceBytes
pub mod SinkPieces
