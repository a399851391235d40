-- What came of an action, with the acts that this asks for.
use Rattle.std.specs.Prelude.{Result, Ok, Err}
use Rattle.pm_bytes.specs.declared.error.Memory.{Memory as WantOfMemory}
use Rattle.pm_journal.specs.Entries.{View}
use Rattle.pm_journal.specs.Executed.{Executes, OutOfMemory}
use Rattle.pm_journal.specs.JournalState.{JournalState}
use Rattle.pm_journal.specs.Plan.{Plan}
use Rattle.pm_meaning.specs.Apart.{acted_with, state_of}
use Rattle.pm_meaning.specs.Minds.{Mind}
use Rattle.pm_meaning.specs.Turns.{ActEnd}
use Rattle.pm_meaning.specs.declared.acted.Acted.{Acted}
use Rattle.pm_meaning.specs.declared.acted.Acted.TheVariants as acted
use Rattle.pm_meaning.specs.declared.mind.Mind.{Mind as Parts}
use Rattle.pm_meaning.specs.declared.mind.Shared.{Shared}
use Rattle.pm_actions.specs.declared.performed.Performed.{Performed}
use Rattle.pm_actions.specs.declared.performed.Performed.TheVariants as performed

-- the process of this mind in this run
abbrev pub state_in : Parts → Shared → Mind
state_in m shared = state_of m shared.host_name shared.placed

-- the answer
abbrev pub performed_of : Result Acted WantOfMemory → Performed
performed_of (Ok acted.Delivered) = performed.Delivered
performed_of (Ok acted.CopyDone) = performed.CopyDone
performed_of (Ok acted.Went) = performed.Went
performed_of (Ok (acted.Failed cause)) = performed.ActionFailed cause
performed_of (Err e) = performed.Memory

-- memory was wanting
abbrev pub IsMemory : Performed → Type 0
IsMemory performed.Memory = Unit {0}
IsMemory other = ⊥

-- The acts of the plan were done and noted, this came of the action, and the process is so then; or memory was wanting in the plan.
abbrev pub Performs : Performed → Plan ActEnd → Mind → JournalState → JournalState → View → View → Type 0
Performs performed.Delivered plan q old new before after = Executes plan (acted_with acted.Delivered q) old new before after
Performs performed.CopyDone plan q old new before after = Executes plan (acted_with acted.CopyDone q) old new before after
Performs performed.Went plan q old new before after = Executes plan (acted_with acted.Went q) old new before after
Performs (performed.ActionFailed cause) plan q old new before after = Executes plan (acted_with (acted.Failed cause) q) old new before after
Performs performed.Memory plan q old new before after = OutOfMemory plan old new before after
