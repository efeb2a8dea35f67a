pub mod Listed
pub mod Printed
pub mod Laws
