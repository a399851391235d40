pub mod Asked
pub mod Holding
pub mod Notes
pub mod Examples
