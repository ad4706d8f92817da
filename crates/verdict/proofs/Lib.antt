pub mod Answers
pub mod Images
pub mod Lists
pub mod Numbers
pub mod Tables
pub mod Truth
