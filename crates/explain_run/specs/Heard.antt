-- What the notes of a run tell of an entry of its journal, by its index, from 0.
use Rattle.std.specs.Prelude.{ℕ, ℤ, pos, int_lt, Bool, true, false, nat_lt, List, [], ◌∷◌, Option, Some, None, if◌then◌else◌}
use Rattle.pm_conds.specs.declared.observer.Note.{Note}
use Rattle.pm_conds.specs.declared.observer.Note.TheVariants.{CameTo, Judged}
use Rattle.pm_meaning.specs.declared.question.Outcome.{Outcome}
use Rattle.pm_meaning.specs.declared.question.Outcome.TheVariants.{Holds, Matched, Fails, Counted, Compared, Exited, Defective, TooLong}

-- how many entries the journal had when the note was heard
abbrev pub entries_at : Note → ℕ
entries_at (CameTo rcfile place admitted entries) = entries
entries_at (Judged outcome score entries) = entries

-- it was heard after the entry
abbrev pub comes_after : Note → ℕ → Bool
comes_after note index = nat_lt index (entries_at note)

-- the note is of a condition
abbrev pub is_judged : Note → Bool
is_judged (CameTo rcfile place admitted entries) = false
is_judged (Judged outcome score entries) = true

-- the entry was made while a condition was judged: the next note after it is the condition's
abbrev pub is_of_condition : List Note → ℕ → Bool
is_of_condition [] index = false
is_of_condition (note ∷ notes) index = if comes_after note index then is_judged note else is_of_condition notes index

-- the last of these notes that came before the entry, or else this one
abbrev pub last_from : List Note → ℕ → Option Note → Option Note
last_from [] index found = found
last_from (note ∷ notes) index found = last_from notes index (if comes_after note index then found else Some note)

-- the last note before the entry
abbrev pub last_note : List Note → ℕ → Option Note
last_note notes index = last_from notes index None

-- a recipe that came before the entry, or else this one
abbrev pub recipe_or : Note → ℕ → Option Note → Option Note
recipe_or note index found = if comes_after note index then found else (if is_judged note then found else Some note)

-- the last recipe of these notes that came before the entry, or else this one
abbrev pub recipe_from : List Note → ℕ → Option Note → Option Note
recipe_from [] index found = found
recipe_from (note ∷ notes) index found = recipe_from notes index (recipe_or note index found)

-- the recipe that the run came to last before the entry
abbrev pub last_recipe : List Note → ℕ → Option Note
last_recipe notes index = recipe_from notes index None

-- a recipe whose last condition came to this, with this score, can be executed
abbrev pub lets_act : Outcome → ℤ → Bool
lets_act Holds score = true
lets_act (Matched bytes) score = true
lets_act Fails score = false
lets_act (Counted weight matches bytes) score = int_lt (pos 0) score
lets_act (Compared weight above length number) score = int_lt (pos 0) score
lets_act (Exited weight inverted code) score = int_lt (pos 0) score
lets_act Defective score = false
lets_act (TooLong length) score = false

-- the action of a recipe can come after the note
abbrev pub may_act : Note → Bool
may_act (CameTo rcfile place admitted entries) = admitted
may_act (Judged outcome score entries) = lets_act outcome score
