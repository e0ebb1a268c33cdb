pub mod Loops
pub mod Theory
