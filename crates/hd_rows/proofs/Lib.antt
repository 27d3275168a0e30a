pub mod Walks
pub mod Handles
pub mod Readiness
pub mod Made
