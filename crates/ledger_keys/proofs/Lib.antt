pub mod SumLaws
pub mod KeptLaws
pub mod SideLaws
pub mod PlaceLaws
pub mod NameLaws
pub mod LentLaws
pub mod SeatLaws
