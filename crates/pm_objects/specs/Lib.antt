pub mod Untouched
