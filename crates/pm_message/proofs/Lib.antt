pub mod CutLemmas
pub mod DayLemmas
pub mod EscapeLemmas
mod FieldLemmas
pub mod FoldLemmas
pub mod HeadLemmas
pub mod LineLemmas
pub mod PieceLemmas
pub mod SplitLemmas
