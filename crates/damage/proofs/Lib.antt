pub mod Drift
