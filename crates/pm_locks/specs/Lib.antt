pub mod Machine
pub mod Steps
pub mod Walks
pub mod Giving
pub mod Examples
