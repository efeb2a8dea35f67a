pub mod Patterns
pub mod Sentences
pub mod Condition
pub mod Writing
pub mod Reading
pub mod Internal
