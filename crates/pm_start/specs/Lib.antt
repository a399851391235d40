pub mod Entry
pub mod Examples
pub mod Login
pub mod Variables
pub mod Words
