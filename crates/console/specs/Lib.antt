pub mod Decimal
pub mod Exchanges
pub mod Hexadecimal
pub mod Names
pub mod Sessions
