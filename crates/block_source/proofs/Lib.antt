pub mod Copies
pub mod Walking
pub mod Counting
pub mod Covering
pub mod SamePlaces
