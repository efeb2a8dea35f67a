pub mod OddParts
pub mod Rounding
pub mod Scaling
