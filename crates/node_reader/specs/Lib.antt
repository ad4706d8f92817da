pub mod Places
pub mod Layout
pub mod Faults
pub mod Stored
pub mod HighLaw
