pub mod Elements
pub mod BlockTexts
