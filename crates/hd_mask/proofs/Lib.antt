pub mod Basics
pub mod Bits
pub mod Ones
pub mod SetBits
mod LowestBits
