pub mod Keys
pub mod Blocks
pub mod Trees
