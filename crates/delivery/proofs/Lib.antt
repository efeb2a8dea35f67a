pub mod TextEnds
pub mod TextCases
pub mod TextAnswers
