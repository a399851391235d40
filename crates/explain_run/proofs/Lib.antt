pub mod Finding
pub mod Stays
