pub mod Orthogonal
pub mod References
