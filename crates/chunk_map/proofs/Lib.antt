pub mod Ranks
pub mod Homes
pub mod Meets
pub mod CopyLaws
pub mod Ordered
pub mod Pairs
pub mod Addresses
pub mod Orders
