pub mod Solver
pub mod Expressions
pub mod Poly
pub mod Interpolation
pub mod Keeps
pub mod Modulo
pub mod Quotient
pub mod Vector
