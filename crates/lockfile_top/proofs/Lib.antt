pub mod WordLemmas
pub mod TaskLemmas
pub mod JobLemmas
pub mod RunLemmas
pub mod EndLemmas
pub mod GoneLemmas
