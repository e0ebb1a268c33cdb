pub mod Sheet
pub mod Tables
pub mod Laws
