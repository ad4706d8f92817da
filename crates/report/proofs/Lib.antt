mod Said
pub mod Plain
mod Objects
