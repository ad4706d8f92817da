pub mod Under
pub mod KnownTrees
pub mod OldTrees
