pub mod Lines
pub mod Telling
pub mod Reading
pub mod Quiet
pub mod Uris
pub mod NoFloats
