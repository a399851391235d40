pub mod Gather
pub mod Length
pub mod Counted
pub mod Turn
pub mod Trim
pub mod Plain
pub mod NoCommand
