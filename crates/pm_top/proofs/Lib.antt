pub mod Lent
pub mod Tracing
pub mod Grown
pub mod Promised
pub mod Refusals
pub mod Faultless
pub mod Assignments
pub mod WordLemmas
pub mod WordRows
pub mod MessageLemmas
pub mod RunLemmas
pub mod TrialLemmas
mod TrialRows
