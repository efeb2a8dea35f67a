pub mod Totals
pub mod Majorities
