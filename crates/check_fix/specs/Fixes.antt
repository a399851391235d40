-- What is said of a text that was written anew.
use Rattle.std.specs.Prelude.{ℕ, ◌≡◌, ◌<◌, Bool, true, false, List, [], ◌∷◌, length, if◌then◌else◌}
use Rattle.std.specs.List.{list_any}
use Rattle.pm_recipe.specs.Refusal.{most_length}
use Rattle.check_moving.specs.Found.{AreForms}
use Rattle.check_moving.specs.declared.finding.Finding.{Finding}
use Rattle.check_fix.specs.Changes.{AreApart, AreChanges, rewritten}
use Rattle.check_fix.specs.Moved.{moves}
use Rattle.check_fix.specs.declared.changes.Change.{Change}
use Rattle.check_fix.specs.declared.fixing.Fix.{Fix}
use Rattle.check_fix.specs.declared.fixing.Outcome.{Outcome}
use Rattle.check_fix.specs.declared.fixing.Outcome.TheVariants.{Fixed, Left, More}
use Rattle.check_fix.specs.declared.fixing.FixRefused.{FixRefused}
use Rattle.check_fix.specs.declared.fixing.FixRefused.TheVariants as refusal

-- a form of a kind that is brought over
abbrev pub has_moving : List Finding → Bool
has_moving findings = list_any (λ finding. moves finding.form) findings

-- whether there are changes
abbrev pub has_changes : List Change → Bool
has_changes [] = false
has_changes (change ∷ changes) = true

-- by the changes of the new text, and the forms that are left in it
abbrev pub outcome_of : List Change → List Finding → Outcome
outcome_of changes findings = if has_changes changes then More else if has_moving findings then Left else Fixed

-- the changes, the text that they make, and the forms that are left in it
pub record IsFix (text : List ℕ) (fix : Fix) : Type 0 where
  pub changes : AreChanges text fix.changes.items
  pub apart : AreApart 0 (length text) fix.changes.items
  pub written : fix.text ≡ rewritten fix.changes.items text
  pub left : AreForms fix.text fix.left.items
  pub more : List Change
  pub again : AreChanges fix.text more
  pub outcome : fix.outcome ≡ outcome_of more fix.left.items

-- the text that the changes make is too long
pub record IsGrown (text : List ℕ) : Type 0 where
  pub changes : List Change
  pub are : AreChanges text changes
  pub long : most_length < length (rewritten changes text)

-- why there is no new text
abbrev pub IsRefused : List ℕ → FixRefused → Type 0
IsRefused text refusal.TooLong = most_length < length text
IsRefused text refusal.Grown = IsGrown text
IsRefused text refusal.Memory = Unit {0}
