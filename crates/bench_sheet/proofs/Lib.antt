pub mod Quick
pub mod Tests
pub mod Computed
