pub mod OutputLemmas
mod LeavingLemmas
mod MailLemmas
pub mod Faults
pub mod Bounds
