pub mod Behind
pub mod Entries
pub mod First
pub mod Kept
pub mod Same
pub mod SoFar
pub mod Apart
