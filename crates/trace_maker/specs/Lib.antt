pub mod Live
pub mod Plan
pub mod Made
pub mod Writes
