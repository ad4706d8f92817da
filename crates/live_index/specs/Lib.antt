pub mod InOrder
pub mod Orders
pub mod Pairs
pub mod Table
