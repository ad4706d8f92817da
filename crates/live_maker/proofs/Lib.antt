pub mod Behind
pub mod Changing
pub mod Closing
pub mod Greater
pub mod Made
