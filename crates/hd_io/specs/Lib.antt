pub mod Counts
pub mod Source
pub mod Sink
pub mod Calls
pub mod Still
pub mod Memory
pub mod Stream
