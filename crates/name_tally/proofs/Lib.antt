pub mod Claims
pub mod Sums
