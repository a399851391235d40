-- Where findings tell of no line, nothing is wrong.
use Rattle.std.proofs.Common.{◌≡◌, ℕ, true, false, if◌then◌else◌, List, [], ◌∷◌, map, Option, Some, None, refl, ap, sym, ◌∙◌, subst}
use Rattle.std.specs.List.{AllByRecursion}
use Rattle.std.specs.List.Sorted.{IsPermutation}
use Rattle.std.proofs.lemmas.List.Elements.{recursion_from_All}
use Rattle.std.proofs.lemmas.List.Sorted.{All-permutation, IsPermutation-sym}
use Rattle.pm_recipe.specs.declared.spans.Span.{Span}
use Rattle.pm_recipe.specs.Tree.{Trees}
use Rattle.pm_recipe.specs.Cuts.{piece_of, AreSpans}
use Rattle.pm_recipe.specs.Rc.{IsRc}
use Rattle.pm_recipe.proofs.OneRc.{built-rc}
use Rattle.pm_recipe.proofs.OneCut.{one-cut-text}
use Rattle.check_find.specs.declared.codes.Code.{Code}
use Rattle.check_find.specs.declared.codes.Code.TheVariants as code
use Rattle.check_find.specs.declared.codes.Fault.{Fault}
use Rattle.check_find.specs.declared.finding.Finding.{Finding}
use Rattle.check_find.specs.Statements.{defect_lines, AreRead}
use Rattle.check_find.specs.Reports.{is_defect, lines_of, put_unread, told_fault, unread_in, fault_at, unread_of, is_quiet, IsReport, NoSurprise}
use Rattle.check_find.proofs.Reading.{PiecesRead, rc-read}

abbrev AreQuiet : List Finding → Type 0
AreQuiet findings = AllByRecursion (λ finding. is_quiet finding.code ≡ true) findings

quiet-lines : (fs : List Finding) → AreQuiet fs → lines_of fs ≡ []
quiet-lines [] q = refl
quiet-lines (f ∷ fs) q = by f.code q.0 (quiet-lines fs q.1)
  where
    by : (c : Code) → is_quiet c ≡ true → lines_of fs ≡ [] → (if is_defect c then f.line ∷ lines_of fs else lines_of fs) ≡ []
    by (code.Mistake mistake) e rest = rest
    by (code.Condition fault) e rest = rest
    by (code.Defect hint) e rest = absurd (let no : false ≡ true = e in cc)

quiet-unread : (fs : List Finding) → AreQuiet fs → unread_in fs ≡ []
quiet-unread [] q = refl
quiet-unread (f ∷ fs) q = by f.code q.0 (quiet-unread fs q.1)
  where
    by : (c : Code) → is_quiet c ≡ true → unread_in fs ≡ [] → put_unread f.line f.first (told_fault c) (unread_in fs) ≡ []
    by (code.Mistake mistake) e rest = rest
    by (code.Condition fault) e rest = absurd (let no : false ≡ true = e in cc)
    by (code.Defect hint) e rest = rest

none-unread : (spans : List Span) → unread_of spans ≡ [] → PiecesRead (map piece_of spans)
none-unread [] e = tt
none-unread (span ∷ spans) e = by (fault_at span.kind span.text.now) e (none-unread spans)
  where
    by : (fault : Option Fault) → put_unread span.line span.first fault (unread_of spans) ≡ [] → (unread_of spans ≡ [] → PiecesRead (map piece_of spans))
        → (fault ≡ None) × PiecesRead (map piece_of spans)
    by None e rest = (refl, rest e)
    by (Some fault) e rest = absurd (cc)

-- findings that were gathered of the text's statements and spans are a report of it, in any order
pub reports : (text : List ℕ) (read : Trees) (gathered findings : List Finding) (spans slice : List Span) → IsRc text read → AreSpans text spans
    → slice ≡ spans → lines_of gathered ≡ defect_lines read → unread_in gathered ≡ unread_of slice → IsPermutation gathered findings
    → (statements : Trees) → IsRc text statements → IsReport text statements findings
reports text read gathered findings spans slice is cut same lines conditions order statements rc = record {
  gathered = gathered;
  same = order;
  spans = spans;
  cut = cut;
  defects = lines ∙ ap defect_lines (built-rc text read is ∙ sym (built-rc text statements rc));
  conditions = conditions ∙ ap unread_of same;
}

-- where findings are quiet, the statements are clean
pub no-surprise : (text : List ℕ) (statements : Trees) (findings : List Finding) → IsRc text statements → IsReport text statements findings
    → NoSurprise statements findings
no-surprise text statements findings rc report quiet =
    let Quiet : Finding → Type 0 = λ finding. is_quiet finding.code ≡ true in
    let all : AreQuiet report.gathered =
    recursion_from_All Quiet report.gathered (All-permutation Quiet findings report.gathered (IsPermutation-sym report.gathered findings report.same) quiet) in
    let pieces : PiecesRead (map piece_of report.spans) = none-unread report.spans (sym report.conditions ∙ quiet-unread report.gathered all) in
    record {
      lines = sym report.defects ∙ quiet-lines report.gathered all;
      conditions = subst AreRead (sym (built-rc text statements rc))
          (rc-read text (subst PiecesRead (one-cut-text text (map piece_of report.spans) report.cut.cut) pieces));
    }
