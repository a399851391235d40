pub mod Variables
pub mod Held
pub mod Table
pub mod Values
pub mod View
pub mod Examples
