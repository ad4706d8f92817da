pub mod Blocks
pub mod Housed
pub mod Named
pub mod Pieces
pub mod Postings
pub mod Work
