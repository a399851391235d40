pub mod Turning
pub mod Order
pub mod Calls
pub mod Trees
pub mod Laws
pub mod Shelf
pub mod Room
pub mod Workable
