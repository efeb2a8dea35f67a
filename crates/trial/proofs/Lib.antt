pub mod Tallies
pub mod SentTones
pub mod Trials
pub mod WeightedTrials
