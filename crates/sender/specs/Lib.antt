pub mod Queues
pub mod Runs
pub mod State
pub mod Sending
pub mod Internal
