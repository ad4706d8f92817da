-- What a commit as a whole does to what is known.
pub mod Commit
pub mod Named
pub mod Spans
pub mod Step
