pub mod Base
pub mod Changes
pub mod Steps
pub mod Given
pub mod Programs
pub mod Tools
