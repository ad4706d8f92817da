pub mod Alike
pub mod Accepted
pub mod Lawful
pub mod SectorSums
pub mod RootList
