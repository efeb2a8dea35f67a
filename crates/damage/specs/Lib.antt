pub mod Damage
pub mod Laws
