pub mod AssignLemmas
pub mod EnvironmentLemmas
mod RunOutLemmas
mod MayLemmas
pub mod NotDeliveredLemmas
pub mod JudgeLemmas
pub mod ProcessLemmas
mod FirstValueLemmas
mod GlobalLemmas
mod WalkLemmas
mod LeaveLemmas
mod RcfileLemmas
mod GateLemmas
mod FallLemmas
mod EndLemmas
pub mod OpeningLemmas
pub mod ArriveLemmas
mod RunLemmas
mod CloneLemmas
mod OtherLemmas
mod DraftLemmas
pub mod FrameLemmas
pub mod CopyLemmas
mod CopyRows
mod TaskLemmas
mod Always
mod NamesOnce
mod Kept
mod KeptOutputs
mod KeptDeliveries
mod KeptPrograms
mod KeptConditions
mod KeptStatements
mod RightSteps
mod RightRuns
mod HeldLockRows
