pub mod Demand
pub mod Laws
