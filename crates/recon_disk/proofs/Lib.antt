mod Partly
pub mod Undoing
pub mod Stopping
pub mod Sending
