-- Changes of a text, and the text that they make.
use Rattle.std.specs.Prelude.{ℕ, ◌+◌, ◌≤◌, ◌≡◌, Bool, ◌&&◌, List, [], ◌∷◌, ◌++◌, length, take, drop, nat_le, if◌then◌else◌}
use Rattle.pm_recipe.specs.Cuts.{AreSpans}
use Rattle.pm_recipe.specs.declared.spans.Span.{Span}
use Rattle.check_moving.specs.Found.{AreForms}
use Rattle.check_moving.specs.declared.finding.Finding.{Finding}
use Rattle.check_fix.specs.Spans.{edits_of}
use Rattle.check_fix.specs.declared.changes.Change.{Change}
use Rattle.check_fix.specs.declared.edits.Edit.{Edit}

-- an edit begins at or after a place, and ends within a text of this length
abbrev pub fits : ℕ → ℕ → Edit → Bool
fits place size edit = nat_le place (edit.first + edit.place) && nat_le ((edit.first + edit.place) + edit.count) size

-- as a change of the text
abbrev pub change_of : Edit → Change
change_of edit = record { first = edit.first + edit.place; count = edit.count; bytes = edit.bytes }

-- the edits that are made: none overlaps one before it
abbrev pub chosen : ℕ → ℕ → List Edit → List Change
chosen place size [] = []
chosen place size (edit ∷ edits) =
    if fits place size edit then change_of edit ∷ chosen ((edit.first + edit.place) + edit.count) size edits
    else chosen place size edits

-- each change ends before the next one, and in a text of this length
abbrev pub AreApart : ℕ → ℕ → List Change → Type 0
AreApart place size [] = Unit {0}
AreApart place size (change ∷ changes) =
    (place ≤ change.first) × ((change.first + change.count ≤ size) × AreApart (change.first + change.count) size changes)

-- a text with the bytes of one change in their place
abbrev pub replaced : Change → List ℕ → List ℕ
replaced change text = (take change.first text ++ change.bytes) ++ drop (change.first + change.count) text

-- with those of all; the last one is made first, so that the places of the others stay
abbrev pub rewritten : List Change → List ℕ → List ℕ
rewritten [] text = text
rewritten (change ∷ changes) text = replaced change (rewritten changes text)

-- the changes of a text: the edits of its forms
pub record AreChanges (text : List ℕ) (changes : List Change) : Type 0 where
  pub spans : List Span
  pub cut : AreSpans text spans
  pub findings : List Finding
  pub found : AreForms text findings
  pub made : changes ≡ chosen 0 (length text) (edits_of spans findings)
