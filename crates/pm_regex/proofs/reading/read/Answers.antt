use Rattle.std.proofs.lemmas.Result.{IfOk-weaker}
use Rattle.pm_regex.proofs.ReadLemmas.{one_reading_of, reads, tokens_of}
use Rattle.pm_regex.proofs.reading.read.Goals as goal

pub returns-clause-only : goal.returns-clause-only
returns-clause-only c =
    let text = c.args.text.now in
    let x = c.in_ok-after.ensures.ok in
    IfOk-weaker c.read_tokens.result _ _ (λ e h f r. one_reading_of text f e r (reads text _ _ e c.deref.ensures.value x.0 x.1 h)) c.read_tokens.ensures.ok

pub returns-clause-defect : goal.returns-clause-defect
returns-clause-defect c =
    let x = c.in_ok-after.ensures.ok in
    λ same e r. c.read_tokens.ensures.defect same e (tokens_of c.args.text.now _ _ e c.deref.ensures.value x.0 r)
