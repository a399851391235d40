pub mod Answering
pub mod Passing
pub mod Started
pub mod Tools
