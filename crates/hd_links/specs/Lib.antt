pub mod Links
pub mod Sources
pub mod Pins
pub mod Graph
pub mod Shown
pub mod Inside
