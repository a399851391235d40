-- Which programs may be those of recipes `VAR=| program`, whose output a variable gets.
use Rattle.std.specs.Prelude.{◌≡◌, ◌<◌, ◌≤◌, ℕ, Bool, true, false, not, ◌||◌, nat_lt, bytes_eq, List, [], ◌∷◌, take, drop, Option, Some, None, slice_get, length, if◌then◌else◌}
use Rattle.std.specs.List.{list_any}
use Rattle.pm_code.specs.Flat.{Flat, Does, Enters, Leaves, written, flats_of}
use Rattle.pm_code.specs.declared.code.Code.{Code}
use Rattle.pm_conds.specs.declared.observer.Note.{Note}
use Rattle.pm_conds.specs.declared.observer.Note.TheVariants.{CameTo, Judged}
use Rattle.pm_journal.specs.declared.acts.Act.{Act}
use Rattle.pm_journal.specs.declared.acts.Act.TheVariants.{ReadFile, Run}
use Rattle.pm_journal.specs.declared.acts.Entry.{Entry}
use Rattle.pm_journal.specs.declared.acts.Reply.{Reply}
use Rattle.pm_journal.specs.declared.acts.Reply.TheVariants.{Content}
use Rattle.pm_meaning.specs.Programs.{has_backquote}
use Rattle.pm_recipe.specs.Listed.{rc_of}
use Rattle.pm_recipe.specs.Refusal.{most_length}
use Rattle.pm_recipe.specs.Tree.{Tree, Act as Action, Recipe, Capture}
use Rattle.explain_run.specs.Heard.{entries_at, last_note, last_recipe, may_act}
use Rattle.explain_run.specs.declared.captures.Captures.{Captures}
use Rattle.explain_run.specs.declared.captures.Captures.TheVariants.{Nothing, Output, AfterCommands}

-- the bytes of an rcfile of this name, if they were read
abbrev pub read_of : List ℕ → Act → Reply → Option (List ℕ)
read_of name (ReadFile other) (Content bytes) = if bytes_eq other name then Some bytes else None
read_of name act reply = None

-- the first, or else the other
abbrev pub or_else : Option (List ℕ) → Option (List ℕ) → Option (List ℕ)
or_else None found = found
or_else (Some bytes) found = Some bytes

-- what these entries read last of the rcfile of this name, or else this
abbrev pub text_from : List ℕ → List Entry → Option (List ℕ) → Option (List ℕ)
text_from name [] found = found
text_from name (entry ∷ entries) found = text_from name entries (or_else (read_of name entry.act entry.reply) found)

-- the text of the rcfile of this name, as it was read last
abbrev pub text_of : List ℕ → List Entry → Option (List ℕ)
text_of name entries = text_from name entries None

-- a text that may not be there has a backquote
abbrev pub lock_has_backquote : Option (List ℕ) → Bool
lock_has_backquote None = false
lock_has_backquote (Some text) = has_backquote text

-- the output of a program goes to a variable, maybe after commands in backquotes
abbrev pub captures_by : Option (List ℕ) → Action → Captures
captures_by lock (Capture name line) = if lock_has_backquote lock || has_backquote line then AfterCommands else Output
captures_by lock other = Nothing

-- the same of a statement
abbrev pub captures_of : Tree → Captures
captures_of (Recipe top act) = captures_by top.lock act
captures_of other = Nothing

-- the same of a step of the code
abbrev pub captures_in : Option Flat → Captures
captures_in None = Nothing
captures_in (Some (Does tree)) = captures_of tree
captures_in (Some (Enters top end)) = Nothing
captures_in (Some (Leaves enter)) = Nothing

-- the same of the step at a place of the code of this text
abbrev pub captures_at : List ℕ → ℕ → Captures
captures_at text place = captures_in (slice_get (written 0 (rc_of text)) place)

-- the code of this text, which one that is too long for an rcfile doesn't have
abbrev pub HasCode : List ℕ → Option Code → Type 0
HasCode text (Some code) = (length text ≤ most_length) × (flats_of code.steps.items ≡ written 0 (rc_of text))
HasCode text None = most_length < length text

-- A program whose output is wanted may be that of the recipe. `earlier`: another one of its kind came before it.
abbrev pub is_captured : Captures → Bool → Bool
is_captured Nothing earlier = false
is_captured Output earlier = not earlier
is_captured AfterCommands earlier = true

-- the same by the rcfile's text; of a recipe whose text isn't known any may be
abbrev pub by_text : Option (List ℕ) → ℕ → Bool → Bool
by_text None place earlier = true
by_text (Some text) place earlier = if nat_lt most_length (length text) then true else is_captured (captures_at text place) earlier

-- the same by the note of the recipe
abbrev pub by_recipe : List Entry → Option Note → Bool → Bool
by_recipe entries (Some (CameTo rcfile place admitted heard)) earlier = by_text (text_of rcfile (take heard entries)) place earlier
by_recipe entries (Some (Judged outcome score heard)) earlier = true
by_recipe entries None earlier = true

-- the act runs a program whose output is wanted
abbrev pub is_wanted : Act → Bool
is_wanted (Run command input want) = want
is_wanted other = false

-- one of the entries between does
abbrev pub any_wanted : List Entry → ℕ → ℕ → Bool
any_wanted entries from to = list_any (λ entry. is_wanted entry.act) (drop from (take to entries))

-- the same by the last note before the entry
abbrev pub by_last : List Entry → List Note → ℕ → Option Note → Bool
by_last entries notes index None = false
by_last entries notes index (Some last) =
    if may_act last then by_recipe entries (last_recipe notes index) (any_wanted entries (entries_at last) index) else false

-- The program of the entry at this index, whose output is wanted and which no condition asked for, may be that of a recipe
-- `VAR=| program`: its recipe is one, and no program came since its conditions, or its lines have backquotes.
abbrev pub may_be_captured : List Entry → List Note → ℕ → Bool
may_be_captured entries notes index = by_last entries notes index (last_note notes index)
