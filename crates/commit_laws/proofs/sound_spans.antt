-- What is sound in an accepted image, and stays so.
pub mod Ascend
pub mod Sound
pub mod Whole
