pub mod Checking
mod FewWords
pub mod Going
pub mod Handing
pub mod HowOften
pub mod Made
pub mod Moments
mod OneForm
pub mod Reaching
pub mod Start
pub mod Stopping
