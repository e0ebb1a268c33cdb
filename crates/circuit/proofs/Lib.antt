pub mod Fields
pub mod Opened
pub mod Wellformed
pub mod Whole
