pub mod Energies
pub mod Internal
