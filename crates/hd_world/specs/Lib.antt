-- What public clauses cite.
pub mod World
pub mod StateHeap
pub mod Applied
pub mod Stepped
-- What a world keeps inside.
pub mod TrueRuns
