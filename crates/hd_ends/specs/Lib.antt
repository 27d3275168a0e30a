pub mod Ends
pub mod Views
pub mod Opened
