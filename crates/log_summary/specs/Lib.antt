pub mod Days
pub mod Examples
pub mod Folders
pub mod LogLines
pub mod Messages
pub mod Tallies
pub mod View
