pub mod Entries
pub mod Last
