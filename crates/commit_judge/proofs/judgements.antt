-- How a commit is judged.
pub mod Counts
pub mod Judge
pub mod Known
pub mod Looks
pub mod Moves
pub mod Passed
pub mod Short
pub mod Stops
pub mod Tried
pub mod Work
