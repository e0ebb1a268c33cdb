pub mod Counts
pub mod Places
pub mod Pages
pub mod Rows
pub mod Laws
