pub mod Mask
pub mod Limits
