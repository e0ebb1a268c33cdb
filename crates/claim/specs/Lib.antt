pub mod Bench
pub mod Steps
pub mod Claim
