pub mod Moved
pub mod Changed
pub mod Counted
pub mod LeastTouched
