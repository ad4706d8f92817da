pub mod Steps
pub mod Sound
pub mod BlockLaws
pub mod High
