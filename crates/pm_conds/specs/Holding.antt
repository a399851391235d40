-- Whether the conditions of a recipe hold, with the acts that this asks for.
use Rattle.std.specs.Prelude.{Bool, true, false, List, [], Result, Ok, Err}
use Rattle.pm_bytes.specs.declared.error.Memory.{Memory as WantOfMemory}
use Rattle.pm_recipe.specs.declared.tree.Condition.{Condition}
use Rattle.pm_recipe.specs.declared.tree.Flags.{Flags}
use Rattle.pm_journal.specs.Entries.{View}
use Rattle.pm_journal.specs.Executed.{Executes, OutOfMemory}
use Rattle.pm_journal.specs.JournalState.{JournalState}
use Rattle.pm_journal.specs.Plan.{Plan, Ends, and_then}
use Rattle.pm_meaning.specs.Apart.{bare}
use Rattle.pm_meaning.specs.Judging.{Held, held_with, holding}
use Rattle.pm_meaning.specs.Minds.{Mind}
use Rattle.pm_conds.specs.declared.holding.Verdict.{Verdict}
use Rattle.pm_conds.specs.declared.holding.Verdict.TheVariants as verdict

-- the verdict of an answer
abbrev pub verdict_of : Result Bool WantOfMemory → Verdict
verdict_of (Ok true) = verdict.Matched
verdict_of (Ok false) = verdict.Unmatched
verdict_of (Err e) = verdict.Memory

-- the process by what conditions look at: neither the host's name nor how often mail was filed
abbrev pub seen_alone : Mind → Mind
seen_alone p = record (bare p) { host_name = []; placed = 0 }

-- whether the conditions hold, and the process so seen then
abbrev pub held_alone : Held → Held
held_alone held = held_with held.holds (seen_alone held.mind)

-- what is asked of a process that is given apart
abbrev pub holding_alone : List Condition → Flags → Mind → Plan Held
holding_alone conditions flags p = and_then (holding conditions flags p) (λ held. Ends (held_alone held))

-- the acts of the conditions were done and noted, and they hold or don't; or memory was wanting
abbrev pub Holds : Verdict → List Condition → Flags → Mind → Mind → JournalState → JournalState → View → View → Type 0
Holds verdict.Matched conditions flags p q old new before after = Executes (holding_alone conditions flags p) (held_with true q) old new before after
Holds verdict.Unmatched conditions flags p q old new before after = Executes (holding_alone conditions flags p) (held_with false q) old new before after
Holds verdict.Memory conditions flags p q old new before after = OutOfMemory (holding_alone conditions flags p) old new before after
