pub mod WordReading
pub mod LineReading
pub mod KeptSizes
