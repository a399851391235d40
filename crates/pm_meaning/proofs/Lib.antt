pub mod OneFiled
pub mod StoredDone
mod ProgramRows
mod FolderRows
mod AbstractRows
pub mod ScoreLemmas
pub mod OneOutcome
pub mod Lines
pub mod Unlocks
pub mod Closings
pub mod NoDelivery
pub mod NoLast
pub mod RecipeReady
pub mod MailboxDelivered
pub mod ProgramDelivered
pub mod TreeDelivered
pub mod LastStep
pub mod FirstKept
pub mod EndStatus
mod OneEnding
pub mod DeliveredLast
pub mod NoStray
pub mod DefaultDelivered
pub mod ClearRun
pub mod Lifting
mod StatusRows
mod ClearRow
pub mod Choices
pub mod Sequences
mod TellLemmas
pub mod SkipLemmas
pub mod OutputLemmas
mod ProgramLemmas
pub mod Beside
pub mod QuietLines
mod ActLemmas
pub mod DestinationLemmas
mod ForwardLemmas
