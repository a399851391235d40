pub mod Rows
pub mod Summing
