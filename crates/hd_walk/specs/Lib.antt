pub mod Trail
pub mod Walk
pub mod Chains
pub mod Inside
