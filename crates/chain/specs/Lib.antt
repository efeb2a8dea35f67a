pub mod Chain
pub mod Tables
pub mod Internal
pub mod Laws
