pub mod Destinations
pub mod Examples
pub mod Lines
pub mod Steps
