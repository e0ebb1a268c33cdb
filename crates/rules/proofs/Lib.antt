pub mod Evaluation
pub mod Lanes
pub mod Loop
pub mod Values
