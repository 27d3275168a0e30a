pub mod Words
pub mod Said
pub mod Lists
pub mod Fault
pub mod Laws
pub mod Load
pub mod AuditInput
pub mod Inside
