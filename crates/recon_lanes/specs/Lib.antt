pub mod Difference
pub mod Folded
pub mod Lent
