pub mod Cache
pub mod Lending
pub mod Lent
pub mod Pieces
pub mod Runs
pub mod JoinedOnce
