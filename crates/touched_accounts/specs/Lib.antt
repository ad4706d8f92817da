pub mod Adding
pub mod AddingLaws
pub mod Laws
pub mod Least
pub mod Looks
pub mod Sums
