-- The step from one image to another.
pub mod Flat
pub mod Named
pub mod Postings
pub mod Records
pub mod Step
pub mod Steps
pub mod Whole
