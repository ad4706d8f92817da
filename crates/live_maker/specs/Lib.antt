pub mod Closing
pub mod Opened
pub mod Tables
