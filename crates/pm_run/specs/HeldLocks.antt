-- Which locks a process holds where it stands: those of its open blocks, and LOCKFILE's.
use Rattle.std.specs.Prelude.{◌≡◌, ℕ, Bool, true, not, ◌&&◌, List, [], ◌∷◌, ◌++◌, Option, Some, None}
use Rattle.pm_bytes.specs.declared.environment.Environ.{Environ}
use Rattle.pm_journal.specs.Held.{holds_name, without}
use Rattle.pm_journal.specs.Walking.{Next, Stop, Go, ArrivesAt}
use Rattle.pm_journal.specs.declared.acts.Entry.{Entry}
use Rattle.pm_meaning.specs.Courses.{Course, Others, now_at, advance, run_of}
use Rattle.pm_meaning.specs.Minds.{Mind}
use Rattle.pm_meaning.specs.Running.{State, Arrived, Setting, Opening, Running, Including, Switching, LeavingFile, Cloning, Refusing, FallingOff, Leaving, Over, Trapping, Unlocking, Closing, Task, Event, Ended, WantsClone, locks_of}
use Rattle.pm_meaning.specs.declared.command_line.CommandLine.{CommandLine}
use Rattle.pm_meaning.specs.declared.ending.Ending.{Ending}
use Rattle.pm_meaning.specs.declared.process.End.{End}

-- a name, where there is one, before these
abbrev pub named : Option (List ℕ) → List (List ℕ) → List (List ℕ)
named None names = names
named (Some name) names = name ∷ names

-- the names among these
abbrev pub names_of : List (Option (List ℕ)) → List (List ℕ)
names_of [] = []
names_of (lock ∷ locks) = named lock (names_of locks)

-- the one name, where there is one
abbrev pub only : Option (List ℕ) → List (List ℕ)
only lock = named lock []

-- no name is there twice
abbrev pub each_once : List (List ℕ) → Bool
each_once [] = true
each_once (name ∷ names) = not (holds_name names name) && each_once names

-- LOCKFILE's lock is among the held ones, where it has one
abbrev pub is_held : Option (List ℕ) → List (List ℕ) → Bool
is_held None names = true
is_held (Some name) names = holds_name names name

-- the held locks but LOCKFILE's
abbrev pub without_named : Option (List ℕ) → List (List ℕ) → List (List ℕ)
without_named None names = names
without_named (Some name) names = without names name

-- of these held locks one is LOCKFILE's, where it has one, and the others are these of open blocks, in their order; none is held twice
pub record HeldAre (blocks locks : List (List ℕ)) (global : Option (List ℕ)) : Type 0 where
  pub others : without_named global locks ≡ blocks
  pub held : is_held global locks ≡ true
  pub once : each_once locks ≡ true

-- a process holds LOCKFILE's lock and those of these blocks, the innermost first, and no other
abbrev pub HoldsOnly : List (Option (List ℕ)) → Mind → Type 0
HoldsOnly blocks p = HeldAre (names_of blocks) p.locks p.global

-- Where a process stands it holds LOCKFILE's lock and those of the blocks that are open there; once LOCKFILE's was given back it holds
-- none.
abbrev pub HoldsRight : State → Type 0
HoldsRight (Arrived line env bytes) = Unit {0}
HoldsRight (Setting pairs line home p) = HoldsOnly [] p
HoldsRight (Opening o names p) = HoldsOnly [] p
HoldsRight (Running items p) = HoldsOnly (locks_of items) p
HoldsRight (Including name items p) = HoldsOnly (locks_of items) p
HoldsRight (Switching name items p) = HoldsOnly (locks_of items) p
HoldsRight (LeavingFile locks items p) = HoldsOnly (locks ++ locks_of items) p
HoldsRight (Cloning trees items p) = HoldsOnly (locks_of items) p
HoldsRight (Refusing items p) = HoldsOnly (locks_of items) p
HoldsRight (FallingOff mailboxes p) = HoldsOnly [] p
HoldsRight (Leaving locks end p) = HoldsOnly locks p
HoldsRight (Over end p) = HoldsOnly [] p
HoldsRight (Trapping end p) = HoldsOnly [] p
HoldsRight (Unlocking ending p) = HoldsOnly [] p
HoldsRight (Closing ending p) = p.locks ≡ []

-- a copy begins with the locks of its blocks
abbrev pub BeginsRight : Task → Type 0
BeginsRight task = HoldsRight (Running task.items task.mind)

-- so does each of these
abbrev pub AllRight : List Task → Type 0
AllRight [] = Unit {0}
AllRight (task ∷ tasks) = BeginsRight task × AllRight tasks

-- in a run the process holds the locks of its blocks and LOCKFILE's, and so will each copy that waits
abbrev pub RunsRight : Course → Type 0
RunsRight c = HoldsRight c.at × AllRight c.others.queue

-- What comes of a step: another state, with the locks of its blocks; a copy is wanted where a process has those of its blocks, and
-- after its end it has none.
abbrev pub ComesRight : Next State Event → Type 0
ComesRight (Go s) = HoldsRight s
ComesRight (Stop (Ended ending p)) = p.locks ≡ []
ComesRight (Stop (WantsClone trees items p)) = HoldsOnly (locks_of items) p

-- wherever a run comes to, its process holds the locks of its blocks and LOCKFILE's, and no other
abbrev pub RunStaysRight : Type 0
RunStaysRight =
    (line : CommandLine) (env : Environ) (bytes : List ℕ) (es : List Entry) (c : Course) → ArrivesAt {X = Ending} advance (run_of line env bytes) es c → RunsRight c

-- a process of a run that is over holds LOCKFILE's lock, if any, and no other
abbrev pub OverHoldsGlobal : Type 0
OverHoldsGlobal =
    (line : CommandLine) (env : Environ) (bytes : List ℕ) (es : List Entry) (others : Others) (end : End) (p : Mind)
    → ArrivesAt {X = Ending} advance (run_of line env bytes) es (now_at others (Over end p)) → p.locks ≡ only p.global
