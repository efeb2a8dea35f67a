pub mod Carried
pub mod TrialsTold
pub mod WeightedTrialsTold
