pub mod Alone
pub mod Shared
pub mod Laws
pub mod Turns
pub mod Lending
pub mod Inside
