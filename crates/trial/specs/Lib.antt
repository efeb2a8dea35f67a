pub mod Tried
pub mod WeightedTried
