pub mod Filling
pub mod Spelling
pub mod OneRecord
pub mod Records
mod Writing
mod Calling
