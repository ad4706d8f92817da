pub mod Amounts
pub mod Aside
pub mod Settled
