pub mod Kept
pub mod Opened
pub mod OpeningLaw
pub mod Accounts
pub mod Judged
