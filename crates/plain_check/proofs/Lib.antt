pub mod SuperLaws
pub mod Opening
pub mod Chain
pub mod Keeping
pub mod Trees
pub mod Counting
pub mod Sums
