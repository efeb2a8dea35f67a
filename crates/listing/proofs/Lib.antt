pub mod LastLine
pub mod Lines
pub mod Room
pub mod Parts
pub mod Pieces
