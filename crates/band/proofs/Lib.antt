pub mod Settings
pub mod Formulas
pub mod Answers
pub mod Owners
pub mod Locating
pub mod Tunes
