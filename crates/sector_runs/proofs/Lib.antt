pub mod Below
pub mod Sweep
