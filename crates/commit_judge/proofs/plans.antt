-- The plan of a commit.
pub mod Fresh
pub mod Plan
pub mod Roots
