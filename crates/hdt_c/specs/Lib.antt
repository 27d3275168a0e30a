-- What the clauses of exports cite.
pub mod Status
pub mod Arguments
pub mod Exports
pub mod Outs
pub mod Wide
pub mod Numbers
pub mod Sizes
