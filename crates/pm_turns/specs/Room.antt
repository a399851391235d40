-- How much may still come, so that no event takes memory.
use Rattle.std.specs.Prelude.{ℕ, ◌-◌, length, ◌≡◌, List}
use Rattle.pm_journal.specs.Appending.{append_step}
use Rattle.pm_host.specs.declared.answers.Took.TheVariants.{Took as TookSome}
use Rattle.pm_host.specs.declared.calls.Answer.{Answer}
use Rattle.pm_host.specs.declared.calls.Answer.TheVariants.{Append as AnswerAppend}
use Rattle.pm_journal.specs.declared.appending.AppendStep.{AppendStep}
use Rattle.pm_journal.specs.declared.appending.AppendStep.TheVariants.{Append as AskAppend, Finish as AppendFinish}
use Rattle.pm_journal.specs.declared.appending.AppendState.{AppendState}
use Rattle.pm_journal.specs.declared.appending.AppendState.TheVariants.{Looking, Creating, Writing}
use Rattle.pm_journal.specs.Locking.{lock_step}
use Rattle.pm_locks.specs.Steps.{IsOpenStep as IsOpenLockStep}
use Rattle.pm_turns.specs.declared.writers.Place.{Place}
use Rattle.pm_turns.specs.declared.writers.Place.TheVariants.{Locking, Appending}
use Rattle.pm_turns.specs.declared.writers.Delivery.{Delivery}

-- the bytes that a step may add at most
abbrev pub step_left : ℕ → AppendStep → ℕ
step_left len (AskAppend from) = len - from
step_left len other = 0

-- the bytes that came by an answer
abbrev pub came : Answer → ℕ
came (AnswerAppend (TookSome n)) = n
came other = 0

-- the bytes that an append may still add
abbrev pub left_at : ℕ → AppendState → ℕ
left_at len Looking = len
left_at len Creating = len
left_at len (Writing made old taken) = len - taken
left_at len other = 0

-- the bytes that a writer that stands here may still add
abbrev pub left_in : List ℕ → Place → ℕ
left_in piece (Locking t) = length piece
left_in piece (Appending a) = left_at (length piece) a.at
left_in piece other = 0

-- the bytes that a writer may still add
abbrev pub left_of : Delivery → ℕ
left_of d = left_in d.piece d.place

-- how often a writer that stands here may still get the lock
abbrev pub waits_in : Place → ℕ
waits_in (Locking t) = 1
waits_in other = 0

-- how often a writer may still get the lock
abbrev pub waits_of : Delivery → ℕ
waits_of d = waits_in d.place

-- something is still to be asked
abbrev pub IsOpenStep : AppendStep → Type 0
IsOpenStep (AppendFinish end) = ⊥
IsOpenStep other = Unit {0}

-- the core of a writer that stands here has something to ask
abbrev pub IsAtWork : List ℕ → Place → Type 0
IsAtWork piece (Locking t) = IsOpenLockStep (lock_step t.at)
IsAtWork piece (Appending a) = (a.len ≡ length piece) × IsOpenStep (append_step a.len a.sync a.at)
IsAtWork piece other = Unit {0}

-- its core has something to ask
abbrev pub IsWorkable : Delivery → Type 0
IsWorkable d = IsAtWork d.piece d.place
