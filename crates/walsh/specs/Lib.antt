pub mod Words
pub mod Transform
pub mod Energy
pub mod Laws
pub mod Internal
