pub mod Tables
pub mod Working
pub mod Straying
pub mod Opening
pub mod Making
pub mod Taking
