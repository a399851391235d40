pub mod FileLemmas
mod FoundLemmas
pub mod CalmLemmas
mod SureLemmas
mod PlaceLemmas
pub mod DeliverLemmas
mod AttemptLemmas
mod SayingLemmas
mod FallbackLemmas
mod FailedLemmas
mod ErrandLemmas
mod FilterLemmas
mod TryLemmas
mod RefusalLemmas
mod TaskLemmas
mod PipeLemmas
