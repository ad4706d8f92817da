pub mod Behind
pub mod Runs
