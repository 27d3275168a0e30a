pub mod Counts
pub mod Views
pub mod Rule
pub mod Traces
pub mod Misses
pub mod Calls
pub mod Laws
pub mod Inside
