pub mod Shares
pub mod Gates
pub mod Runs
pub mod Clear
pub mod Engine
