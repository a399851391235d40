-- A text written to a sink.
use Rattle.std.specs.Prelude.{◌≡◌, ◌≤◌, ◌<◌, ◌++◌, ℕ, Bool, true, false, List, length, take}
use Rattle.std.specs.List.{concat}
use Rattle.pm_host.specs.Told.{Tells, Adds, Rose}
use Rattle.pm_host.specs.Streams.{StreamView}
use Rattle.pm_streams.specs.declared.writing.WriteEnd.{WriteEnd}
use Rattle.pm_streams.specs.declared.writing.WriteEnd.TheVariants.{Wrote, Short}

-- what the sink took of the text: all of it, or so many first bytes
abbrev pub taken_of : List ℕ → WriteEnd → List ℕ
taken_of text Wrote = text
taken_of text (Short n) = take n text

-- where it took so many first bytes, these are less than all
abbrev pub IsShortOf : List ℕ → WriteEnd → Type 0
IsShortOf text Wrote = Unit {0}
IsShortOf text (Short n) = n < length text

-- less than all was taken
abbrev pub IsShort : WriteEnd → Type 0
IsShort Wrote = ⊥
IsShort (Short n) = Unit {0}

-- the sink took what the end says; only a failed write cuts the text short
pub record WritesText (text : List ℕ) (end : WriteEnd) (before after : StreamView) : Type 0 where
  pub bytes : Tells (Adds (taken_of text end)) before.bytes after.bytes
  pub short : IsShortOf text end
  pub later : before.faults ≤ after.faults
  pub failed : IsShort end → Rose before.faults after.faults

-- whether the sink took all
abbrev pub is_all : WriteEnd → Bool
is_all Wrote = true
is_all (Short n) = false

-- the texts were written one after the other, and the answer says whether all of that was
pub record WritesTexts (texts : List (List ℕ)) (all : Bool) (before after : StreamView) : Type 0 where
  pub end : WriteEnd
  pub written : WritesText (concat texts) end before after
  pub all_is : all ≡ is_all end

-- the sink took the front of a text, and this is left of it
pub record TakesUpTo (left text : List ℕ) (before after : StreamView) : Type 0 where
  pub taken : List ℕ
  pub cut : taken ++ left ≡ text
  pub bytes : Tells (Adds taken) before.bytes after.bytes
  pub later : before.faults ≤ after.faults

-- a write failed before the sink had taken all of a text
pub record CutsShort (text : List ℕ) (before after : StreamView) : Type 0 where
  pub left : List ℕ
  pub front : TakesUpTo left text before after
  pub some : 0 < length left
  pub failed : Rose before.faults after.faults
