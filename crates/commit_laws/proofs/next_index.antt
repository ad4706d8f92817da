-- What is known of the next image, part by part.
pub mod Flag
pub mod Flags
pub mod Hot
pub mod Table
pub mod Whole
