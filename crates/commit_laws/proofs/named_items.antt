-- Items by their names, in order, and what changes between two lists of them.
pub mod Alike
pub mod All
pub mod Filters
pub mod Found
pub mod Members
pub mod Named
pub mod Paired
pub mod Placed
pub mod Stable
