pub mod Asked
pub mod Examples
pub mod Laws
pub mod Outputs
pub mod Run
pub mod Words
