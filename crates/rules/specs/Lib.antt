pub mod Rules
pub mod Elements
pub mod Plain
pub mod Clear
pub mod Theorems
