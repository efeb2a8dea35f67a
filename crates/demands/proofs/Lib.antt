pub mod Hearings
pub mod Undamaged
pub mod Agreement
pub mod Answers
pub mod Sent
pub mod Demands
pub mod CleanTones
