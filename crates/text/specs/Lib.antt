pub mod Ascii
pub mod Decimal
pub mod Written
pub mod Laws
