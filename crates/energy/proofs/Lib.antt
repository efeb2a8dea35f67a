pub mod EnergyCases
pub mod Summed
