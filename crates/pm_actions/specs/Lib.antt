pub mod Performing
pub mod Works
