-- Images that keep what one holds.
pub mod Frame
pub mod Stops
