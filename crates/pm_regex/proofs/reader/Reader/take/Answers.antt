use Rattle.std.proofs.Common.{◌≡◌, None, subst}
use Rattle.std.proofs.lemmas.Result.{err_from_is_err_and}
use Rattle.pm_regex.specs.Machine.{step}
use Rattle.pm_regex.proofs.TokenLemmas.{one_first}
use Rattle.pm_regex.proofs.reader.Reader.take.Goals as goal

pub returns-in_err-put-clause-defect : goal.returns-in_err-put-clause-defect
returns-in_err-put-clause-defect c =
    let at = c.in-Some.ensures.some in
    let is = err_from_is_err_and c.from_residual.result c.from_residual.ensures.1 in
    λ same t rest first st so.
    let one = one_first _ _ t _ rest at.token first in
    subst (λ z. step st z ≡ None) one.0 (c.in_err-put.ensures.defect (cc) st so)
