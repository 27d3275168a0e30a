pub mod Comings
pub mod Listings
pub mod Makes
pub mod WideTurns
pub mod HeaderNumbers
pub mod SharedOpenings
