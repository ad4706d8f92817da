pub mod Gives
pub mod Takes
pub mod Counts
pub mod Private
