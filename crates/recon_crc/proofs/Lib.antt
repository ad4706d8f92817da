pub mod Slicing
pub mod Rows
