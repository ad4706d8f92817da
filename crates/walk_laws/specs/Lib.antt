pub mod WalkOrder
