pub mod Image
pub mod Rules
pub mod OnDisk
pub mod Letter
pub mod Trees
pub mod Items
pub mod Events
pub mod Chunks
