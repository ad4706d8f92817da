-- How a start fills the index, and what it costs.
pub mod Filling
pub mod Found
pub mod Looks
pub mod Opened
pub mod Posts
pub mod Ready
pub mod Tables
