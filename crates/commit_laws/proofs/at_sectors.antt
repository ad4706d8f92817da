-- What a commit does to each sector.
pub mod Judged
pub mod Posted
pub mod Runs
