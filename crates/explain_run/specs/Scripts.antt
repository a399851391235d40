-- How the programs of a run are answered, by the journal of the run before it.
use Rattle.std.specs.Prelude.{◌≡◌, ℕ, Bool, false, nat_eq, List, [], ◌∷◌, ◌++◌, flat_map, Option, Some, None, if◌then◌else◌}
use Rattle.std.specs.List.{list_any}
use Rattle.pm_host.specs.declared.command.Command.{Command}
use Rattle.pm_journal.specs.declared.acts.Act.{Act}
use Rattle.pm_journal.specs.declared.acts.Act.TheVariants.{Run}
use Rattle.pm_journal.specs.declared.acts.Entry.{Entry}
use Rattle.pm_journal.specs.declared.acts.Reply.{Reply}
use Rattle.pm_journal.specs.declared.acts.Reply.TheVariants.{Ended}
use Rattle.pm_memory.specs.Source.{left_of}
use Rattle.explain_run.specs.Programs.{program_at, runs}
use Rattle.explain_run.specs.declared.past.Past.{Past}
use Rattle.explain_run.specs.declared.script.Part.{Part}
use Rattle.explain_run.specs.declared.script.Part.TheVariants.{Below, Real, Again}

-- it is the place of the program that is started next
abbrev pub is_next : Option ℕ → ℕ → Bool
is_next None place = false
is_next (Some next) place = nat_eq next place

-- it is the place of a program that was started before
abbrev pub was_started : List ℕ → ℕ → Bool
was_started started place = list_any (λ one. nat_eq one place) started

-- the next one is started, one that was started has its answer again, and others have that of the host below
abbrev pub part_by : List ℕ → Option ℕ → ℕ → Part
part_by started next place = if is_next next place then Real else (if was_started started place then Again else Below)

-- so it is for the program that was at the place in the run before; any other has the answer of the host below
abbrev pub part_of : Option Entry → List ℕ → Option ℕ → ℕ → Command → Bool → Part
part_of None started next place command want = Below
part_of (Some entry) started next place command want = if runs command want entry.act then part_by started next place else Below

-- how a program at a place is answered
abbrev pub part_at : List Entry → List ℕ → Option ℕ → ℕ → Command → Bool → Part
part_at entries started next place command want = part_of (program_at entries place) started next place command want

-- what a program that ended with this reply takes and gives once more; any other reply can't be given again
abbrev pub IsPast : Reply → Option Past → Type 0
IsPast (Ended code took output) (Some past) = (past.code ≡ code) × (past.takes ≡ took) × (left_of past.output ≡ output)
IsPast (Ended code took output) None = ⊥
IsPast other (Some past) = ⊥
IsPast other None = Unit {0}

-- it has the answer of the program at a place
abbrev pub IsAgain : Option Entry → Past → Type 0
IsAgain None past = ⊥
IsAgain (Some entry) past = IsPast entry.reply (Some past)

-- the same program
abbrev pub same_acts : Act → Act → Bool
same_acts (Run command input want) other = runs command want other
same_acts act other = false

-- the same program at the place, if there is one in both runs
abbrev pub same_programs : Option Entry → Option Entry → Bool
same_programs None new = false
same_programs (Some old) None = false
same_programs (Some old) (Some new) = same_acts old.act new.act

-- the place, if both runs have the same program there
abbrev pub kept : List Entry → List Entry → ℕ → List ℕ
kept old new place = if same_programs (program_at old place) (program_at new place) then place ∷ [] else []

-- the places of the programs that were started, after one more was; the journal was the old one before that, and is the new one
abbrev pub started_after : List Entry → List Entry → List ℕ → ℕ → List ℕ
started_after old new started next = flat_map (kept old new) started ++ kept old new next
