-- What findings say of an rcfile.
use Rattle.std.specs.Prelude.{◌≡◌, ℕ, Bool, true, false, List, [], ◌∷◌, if◌then◌else◌, Option, Some, None}
use Rattle.std.specs.List.{All}
use Rattle.std.specs.List.Sorted.{IsPermutation, IsNonDecreasingBy}
use Rattle.pm_recipe.specs.Tree.{Trees}
use Rattle.pm_recipe.specs.Cuts.{AreSpans}
use Rattle.pm_recipe.specs.Weights.{condition_of}
use Rattle.pm_recipe.specs.declared.spans.Span.{Span}
use Rattle.pm_recipe.specs.declared.fronts.Kind.{Kind}
use Rattle.pm_recipe.specs.declared.fronts.Kind.TheVariants as kind
use Rattle.check_find.specs.declared.codes.Code.{Code}
use Rattle.check_find.specs.declared.codes.Code.TheVariants as code
use Rattle.check_find.specs.declared.codes.Fault.{Fault}
use Rattle.check_find.specs.declared.finding.Finding.{Finding}
use Rattle.check_find.specs.Faults.{fault_of}
use Rattle.check_find.specs.Statements.{defect_lines, AreRead}

-- a skipped line
abbrev pub is_defect : Code → Bool
is_defect (code.Defect hint) = true
is_defect _ = false

-- the lines of the findings that tell of skipped lines
abbrev pub lines_of : List Finding → List ℕ
lines_of [] = []
lines_of (finding ∷ findings) = if is_defect finding.code then finding.line ∷ lines_of findings else lines_of findings

-- a condition that can't be read: its line, its place in the text, and why
pub record Unread : Type 0 where
  pub line : ℕ
  pub first : ℕ
  pub fault : Fault

-- with such a condition in front, where there is one
abbrev pub put_unread : ℕ → ℕ → Option Fault → List Unread → List Unread
put_unread line first None rest = rest
put_unread line first (Some fault) rest = record { line = line; first = first; fault = fault } ∷ rest

-- what is wrong with a condition, of a finding that tells of one
abbrev pub told_fault : Code → Option Fault
told_fault (code.Condition fault) = Some fault
told_fault _ = None

-- the conditions that findings tell of
abbrev pub unread_in : List Finding → List Unread
unread_in [] = []
unread_in (finding ∷ findings) = put_unread finding.line finding.first (told_fault finding.code) (unread_in findings)

-- what is wrong with a span: only conditions have to be read
abbrev pub fault_at : Kind → List ℕ → Option Fault
fault_at kind.Condition text = fault_of (condition_of text)
fault_at _ text = None

-- the conditions of a text that can't be read
abbrev pub unread_of : List Span → List Unread
unread_of [] = []
unread_of (span ∷ spans) = put_unread span.line span.first (fault_at span.kind span.text.now) (unread_of spans)

-- in some order these findings were gathered: those of skipped lines have the lines of the statements' defects, and those of
-- conditions have the lines and places of the text's conditions that can't be read
pub record IsReport (text : List ℕ) (statements : Trees) (findings : List Finding) : Type 0 where
  pub gathered : List Finding
  pub same : IsPermutation gathered findings
  pub spans : List Span
  pub cut : AreSpans text spans
  pub defects : lines_of gathered ≡ defect_lines statements
  pub conditions : unread_in gathered ≡ unread_of spans

-- by their lines
abbrev pub AreInOrder : List Finding → Type 0
AreInOrder findings = IsNonDecreasingBy (λ finding. finding.line) findings

-- a finding tells of no line that procmail logs as skipped or defective
abbrev pub is_quiet : Code → Bool
is_quiet (code.Mistake mistake) = true
is_quiet _ = false

-- no line is skipped, and each condition can be read
pub record IsClean (statements : Trees) : Type 0 where
  pub lines : defect_lines statements ≡ []
  pub conditions : AreRead statements

-- where no finding tells of one, there is none
abbrev pub NoSurprise : Trees → List Finding → Type 0
NoSurprise statements findings = All (λ finding. is_quiet finding.code ≡ true) findings → IsClean statements
