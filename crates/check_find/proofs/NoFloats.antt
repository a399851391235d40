-- No finding has a number with a fraction, so the text of all of them is known.
use Rattle.std.proofs.Common.{◌≡◌, ℕ, Bool, false, ◌||◌, List, [], ◌∷◌, map, refl, ap}
use Rattle.serde_json.specs.View.{items_of}
use Rattle.serde_json.specs.Written.{has_float, items_have_float}
use Rattle.check_find.specs.declared.line.Line.{Line}
use Rattle.check_find.specs.Objects.{finding_data, findings_data, result_data, log_data}

in_findings : (lines : List Line) → items_have_float (items_of (map finding_data lines)) ≡ false
in_findings [] = refl
in_findings (line ∷ lines) = in_findings lines

pub of_findings : (lines : List Line) → has_float (findings_data lines) ≡ false
of_findings lines = ap (λ b. b || false) (in_findings lines)

in_results : (lines : List Line) → items_have_float (items_of (map result_data lines)) ≡ false
unfolding result_data
in_results [] = refl
in_results (line ∷ lines) = in_results lines

pub of_log : (version : List ℕ) (lines : List Line) → has_float (log_data version (map result_data lines)) ≡ false
unfolding log_data
of_log version lines = ap (λ b. ((b || false) || false) || false) (in_results lines)
