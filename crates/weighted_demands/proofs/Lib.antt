pub mod Multiples
pub mod Silences
pub mod Demands
