pub mod Faults
pub mod Tables
pub mod Work
pub mod Openings
pub mod Seats
pub mod Nodes
