-- The edits of an rcfile, span for span.
use Rattle.std.specs.Prelude.{ℕ, Bool, true, false, ◌&&◌, List, [], ◌∷◌, ◌++◌, nat_eq, nat_lt, nat_le, if◌then◌else◌}
use Rattle.pm_recipe.specs.declared.fronts.Kind.{Kind}
use Rattle.pm_recipe.specs.declared.fronts.Kind.TheVariants as kind
use Rattle.pm_recipe.specs.declared.spans.Span.{Span}
use Rattle.check_moving.specs.declared.finding.Finding.{Finding}
use Rattle.check_moving.specs.declared.form.Form.{Form}
use Rattle.check_fix.specs.Colons.{wait_edits}
use Rattle.check_fix.specs.Copies.{is_between, colon_after, copy_edits, stop_edits}
use Rattle.check_fix.specs.Counts.{count_edits}
use Rattle.check_fix.specs.Conditions.{great_edits, size_edits}
use Rattle.check_fix.specs.Moved.{all_form_edits, all_lock_edits}
use Rattle.check_fix.specs.Scores.{is_free, name_edits, no_score, score_after, score_edits}
use Rattle.check_fix.specs.declared.edits.Edit.{Edit}
use Rattle.check_fix.specs.declared.scores.Score.{Score}

-- the forms at a place; findings are in the order of their places
abbrev pub forms_at : ℕ → List Finding → List Form
forms_at place [] = []
forms_at place (finding ∷ findings) =
    if nat_lt finding.first place then forms_at place findings
    else if nat_eq finding.first place then finding.form ∷ forms_at place findings
    else []

-- the findings after a place
abbrev pub later_than : ℕ → List Finding → List Finding
later_than place [] = []
later_than place (finding ∷ findings) = if nat_le finding.first place then later_than place findings else finding ∷ findings

-- the spans from the action of a recipe on
abbrev pub from_action : List Span → List Span
from_action [] = []
from_action (span ∷ spans) = if is_between span.kind then from_action spans else span ∷ spans

-- a colon line before its action, and the spans after that one
abbrev pub colon_edits : Span → List Span → List Finding → List Edit
colon_edits span [] findings = []
colon_edits span (action ∷ spans) findings =
    wait_edits span.first span.bytes.now action.kind
    ++ (copy_edits span.first span.bytes.now action.kind spans ++ all_lock_edits (forms_at action.first findings) span)

-- the score of the recipe before as a variable, the colon line, and the condition by that score
abbrev pub recipe_edits : Span → List Span → Bool → List Finding → List Edit
recipe_edits span spans ended findings =
    name_edits span spans (from_action spans) ended
    ++ (colon_edits span (from_action spans) findings ++ score_edits spans (from_action spans) ended)

-- what needs no finding: weights above the greatest, sizes by variables, filters that aren't waited for, copies that a
-- variable decides on, weights by the score of the recipe before, and counts of conditions
abbrev pub kind_edits : Kind → Span → List Span → Bool → List Finding → List Edit
kind_edits kind.Condition span spans ended findings = great_edits span.first span.bytes.now ++ size_edits span.first span.bytes.now
kind_edits kind.Colon span spans ended findings = recipe_edits span spans ended findings
kind_edits kind.Skipped span spans ended findings = count_edits span spans
kind_edits _ span spans ended findings = []

-- the forms that were found in a span before these, where all spans of the text are those
abbrev pub found_edits : Span → List Span → List Span → List Finding → List Edit
found_edits span spans all findings = all_form_edits (forms_at span.first findings) span spans all

-- a span before these, of all, behind this colon line and this score
abbrev pub span_edits : Span → List Span → List Span → List ℕ → Score → List Finding → List Edit
span_edits span spans all colon score findings =
    found_edits span spans all findings
    ++ (kind_edits span.kind span spans (score.this && is_free all) findings ++ stop_edits span spans colon)

-- these spans of all, behind that
abbrev pub edits_among : List Span → List ℕ → Score → List Span → List Finding → List Edit
edits_among all colon score [] findings = []
edits_among all colon score (span ∷ spans) findings =
    span_edits span spans all colon score findings
    ++ edits_among all (colon_after span colon) (score_after span score) spans (later_than span.first findings)

-- all spans
abbrev pub edits_of : List Span → List Finding → List Edit
edits_of spans findings = edits_among spans [] no_score spans findings
