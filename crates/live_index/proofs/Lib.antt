pub mod AlikeLaws
pub mod IndexLaws
pub mod NarrowLaws
pub mod PlaceLaws
pub mod WalkLaws
