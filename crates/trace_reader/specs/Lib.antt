pub mod Fault
pub mod Trace
pub mod Reader
pub mod Reading
pub mod Pieces
