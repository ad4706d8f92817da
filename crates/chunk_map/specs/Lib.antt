pub mod SystemArray
pub mod Order
pub mod Laws
pub mod Roots
