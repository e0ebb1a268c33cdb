pub mod Model
pub mod W4
pub mod W4Inverses
pub mod B8
pub mod B8Inverses
pub mod Bytes
pub mod Entries
pub mod Words
