pub mod Choices
pub mod LeadLemmas
pub mod SearchLemmas
pub mod WeighLemmas
pub mod ConditionLemmas
mod NoteLemmas
mod QuietConditions
mod HoldLemmas
