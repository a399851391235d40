-- The answers of actions.
use Rattle.std.proofs.Common.{Result, Ok, Err, OnErr}
use Rattle.pm_bytes.specs.declared.error.Memory.{Memory}
use Rattle.pm_journal.specs.Entries.{View}
use Rattle.pm_journal.specs.Executed.{Carries}
use Rattle.pm_journal.specs.JournalState.{JournalState}
use Rattle.pm_journal.specs.Plan.{Plan}
use Rattle.pm_meaning.specs.Apart.{acted_with}
use Rattle.pm_meaning.specs.Minds.{Mind}
use Rattle.pm_meaning.specs.Turns.{ActEnd}
use Rattle.pm_meaning.specs.declared.acted.Acted.{Acted}
use Rattle.pm_meaning.specs.declared.acted.Acted.TheVariants as acted
use Rattle.pm_actions.specs.Performing.{Performs, IsMemory, performed_of}

-- what was carried out, by its answer
pub performs_of : (plan : Plan ActEnd) (q : Mind) (result : Result Acted Memory) (x y : JournalState) (a b : View) → Carries plan (λ acted. acted_with acted q) result x y a b → Performs (performed_of result) plan q x y a b
performs_of plan q (Ok acted.Delivered) x y a b h = h.0
performs_of plan q (Ok acted.CopyDone) x y a b h = h.0
performs_of plan q (Ok acted.Went) x y a b h = h.0
performs_of plan q (Ok (acted.Failed cause)) x y a b h = h.0
performs_of plan q (Err e) x y a b h = h.1

-- what holds where memory was wanting
pub wanting : (P : Type 0) (result : Result Acted Memory) → OnErr result P → IsMemory (performed_of result) → P
wanting P (Ok acted.Delivered) h is = absurd is
wanting P (Ok acted.CopyDone) h is = absurd is
wanting P (Ok acted.Went) h is = absurd is
wanting P (Ok (acted.Failed cause)) h is = absurd is
wanting P (Err e) h is = h
