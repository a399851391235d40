-- What holds of a process's held locks and LOCKFILE's, whatever else a plan changes.
use Rattle.std.proofs.Common.{ℕ, Bool, true, false, List, Option, if◌then◌else◌}
use Rattle.pm_meaning.specs.Delivering.{Filing, Attempted, Ready}
use Rattle.pm_meaning.specs.Ends.{Trapped}
use Rattle.pm_meaning.specs.Judging.{Come, Judged, Held}
use Rattle.pm_meaning.specs.Outputs.{Outputs, Output, Read}
use Rattle.pm_meaning.specs.ProgramActions.{Tried, Trying}
use Rattle.pm_meaning.specs.Turns.{ActEnd}
use Rattle.pm_meaning.specs.Minds.{Mind}

-- this holds of a process's held locks and LOCKFILE's
abbrev pub Kept : (List (List ℕ) → Option (List ℕ) → Type 0) → Mind → Type 0
Kept K p = K p.locks p.global

pub kept_if : (K : List (List ℕ) → Option (List ℕ) → Type 0) (b : Bool) (p q : Mind) → Kept K p → Kept K q → Kept K (if b then p else q)
kept_if K true p q h k = h
kept_if K false p q h k = k

-- it holds after a backquoted command
abbrev pub AfterCommand : (List (List ℕ) → Option (List ℕ) → Type 0) → Output → Type 0
AfterCommand K end = Kept K end.mind

-- it holds after several
abbrev pub AfterCommands : (List (List ℕ) → Option (List ℕ) → Type 0) → Outputs → Type 0
AfterCommands K end = Kept K end.mind

-- it holds once a program line was read
abbrev pub AfterLine : (List (List ℕ) → Option (List ℕ) → Type 0) → Read → Type 0
AfterLine K end = Kept K end.mind

-- it holds after TRAP's program
abbrev pub AfterTrap : (List (List ℕ) → Option (List ℕ) → Type 0) → Trapped → Type 0
AfterTrap K end = Kept K end.mind

-- it holds after one destination or more
abbrev pub AfterFiling : (List (List ℕ) → Option (List ℕ) → Type 0) → Filing → Type 0
AfterFiling K end = Kept K end.mind

-- it holds after an attempt to deliver, with its lock file given back
abbrev pub AfterAttempt : (List (List ℕ) → Option (List ℕ) → Type 0) → Attempted → Type 0
AfterAttempt K end = Kept K end.mind

-- it holds once an action's commands were run
abbrev pub OnceReady : (List (List ℕ) → Option (List ℕ) → Type 0) → Ready → Type 0
OnceReady K end = Kept K end.mind

-- it holds after a program was tried
abbrev pub AfterTry : (List (List ℕ) → Option (List ℕ) → Type 0) → Tried → Type 0
AfterTry K end = Kept K end.mind

-- it holds after that, with its lock file given back
abbrev pub AfterTrial : (List (List ℕ) → Option (List ℕ) → Type 0) → Trying → Type 0
AfterTrial K end = Kept K end.mind

-- it holds after an action
abbrev pub AfterAct : (List (List ℕ) → Option (List ℕ) → Type 0) → ActEnd → Type 0
AfterAct K end = Kept K end.mind

-- it holds after a condition
abbrev pub AfterCondition : (List (List ℕ) → Option (List ℕ) → Type 0) → Come → Type 0
AfterCondition K end = Kept K end.mind

-- it holds after all of them
abbrev pub AfterJudging : (List (List ℕ) → Option (List ℕ) → Type 0) → Judged → Type 0
AfterJudging K end = Kept K end.mind

-- it holds once it is told what was wrong with them
abbrev pub AfterConditions : (List (List ℕ) → Option (List ℕ) → Type 0) → Held → Type 0
AfterConditions K end = Kept K end.mind
