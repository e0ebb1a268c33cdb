pub mod Ring
pub mod Solver
pub mod Poly
pub mod Quotient
