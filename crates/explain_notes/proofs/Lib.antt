pub mod Weaving
pub mod Fitting
pub mod Standing
