-- What an accepted image says of its items.
pub mod Apart
pub mod Blocks
pub mod Items
pub mod Postings
pub mod Rows
pub mod Sums
