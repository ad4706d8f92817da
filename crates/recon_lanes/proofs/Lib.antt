pub mod Eights
pub mod Folds
pub mod Inverted
pub mod Lanes
pub mod Steps
pub mod Tails
