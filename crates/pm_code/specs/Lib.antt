pub mod Flat
pub mod Ahead
pub mod Between
pub mod Laws
