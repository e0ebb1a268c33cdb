pub mod Refusals
pub mod Curve
