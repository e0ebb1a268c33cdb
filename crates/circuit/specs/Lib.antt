pub mod Codes
pub mod Kinds
pub mod Gates
pub mod Judging
pub mod Lists
pub mod Openings
pub mod Circuits
pub mod Wellformed
