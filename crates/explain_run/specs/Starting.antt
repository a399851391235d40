-- Which programs of a run may be started: those of conditions, commands in backquotes, and filters.
use Rattle.std.specs.Prelude.{ℕ, ◌+◌, Bool, true, false, not, ◌&&◌, ◌||◌, nat_lt, List, [], ◌∷◌, ◌++◌, Option, Some, None, if◌then◌else◌}
use Rattle.pm_overlay.specs.Tools.{has_answer}
use Rattle.pm_conds.specs.declared.observer.Note.{Note}
use Rattle.pm_journal.specs.declared.acts.Act.{Act}
use Rattle.pm_journal.specs.declared.acts.Act.TheVariants.{Run}
use Rattle.pm_journal.specs.declared.acts.Entry.{Entry}
use Rattle.pm_journal.specs.declared.acts.Reply.{Reply}
use Rattle.pm_journal.specs.declared.acts.Reply.TheVariants.{Ended, NotStarted}
use Rattle.explain_run.specs.Captures.{may_be_captured}
use Rattle.explain_run.specs.Heard.{is_of_condition}
use Rattle.explain_run.specs.Programs.{program_at}

-- A condition asked for the program; or its output is wanted, and it isn't a variable's. So it is none that gets the mail as a
-- delivery, and not that of TRAP.
abbrev pub is_asked : List Entry → List Note → ℕ → Bool → Bool
is_asked entries notes index want = is_of_condition notes index || (want && not (may_be_captured entries notes index))

-- whether the program of an act may be started, if it runs one; the commands of these lines have answers
abbrev pub start_of : List (List ℕ) → List Entry → List Note → ℕ → Act → Option Bool
start_of lines entries notes index (Run command input want) = Some (not (has_answer lines command) && is_asked entries notes index want)
start_of lines entries notes index other = None

-- it, if there is one
abbrev pub listed : Option Bool → List Bool
listed None = []
listed (Some one) = one ∷ []

-- the same of each program of these entries, the first of which has this index
abbrev pub starts_from : List (List ℕ) → List Entry → List Note → ℕ → List Entry → List Bool
starts_from lines entries notes index [] = []
starts_from lines entries notes index (entry ∷ rest) =
    listed (start_of lines entries notes index entry.act) ++ starts_from lines entries notes (index + 1) rest

-- whether each program of a run may be started, by its place
abbrev pub starts_of : List (List ℕ) → List Entry → List Note → List Bool
starts_of lines entries notes = starts_from lines entries notes 0 entries

-- the place comes after this one
abbrev pub is_past : Option ℕ → ℕ → Bool
is_past None place = true
is_past (Some last) place = nat_lt last place

-- the first place after this one at which the program may be started, where so many come before these
abbrev pub first_from : Option ℕ → ℕ → List Bool → Option ℕ
first_from last place [] = None
first_from last place (starts ∷ rest) = if is_past last place && starts then Some place else first_from last (place + 1) rest

-- the same answer can be given again
abbrev pub is_repeatable : Reply → Bool
is_repeatable (Ended code took output) = true
is_repeatable NotStarted = true
is_repeatable other = false

-- the program's answer can be given again, if there is one
abbrev pub can_repeat : Option Entry → Bool
can_repeat None = true
can_repeat (Some entry) = is_repeatable entry.reply

-- the program that was started last has an answer that can be given again
abbrev pub goes_on : List Entry → Option ℕ → Bool
goes_on entries None = true
goes_on entries (Some last) = can_repeat (program_at entries last)

-- the place of the program that is started next, after the one that was started last
abbrev pub next_start : List (List ℕ) → List Entry → List Note → Option ℕ → Option ℕ
next_start lines entries notes last = if goes_on entries last then first_from last 0 (starts_of lines entries notes) else None
