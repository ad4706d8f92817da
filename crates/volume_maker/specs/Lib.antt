pub mod Volume
pub mod Items
pub mod Live
pub mod Remade
