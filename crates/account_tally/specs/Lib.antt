pub mod Sums
pub mod Ranges
pub mod Apart
pub mod ApartLaws
pub mod Kept
