use Rattle.std.proofs.Common.{◌+◌, ◌<◌, ◌≤◌, length, drop, arith, length-drop}
use Rattle.std.proofs.lemmas.Result.{IfOk-weaker, err_from_is_err_and}
use Rattle.pm_regex.proofs.ExpandLemmas.{rest_is}
use Rattle.pm_regex.proofs.ReadLemmas.{parsed_further, refused, ended, not_ended}
use Rattle.pm_regex.proofs.reading.read_tokens.Goals as goal

pub returns-in_err-place-clause-defect : goal.returns-in_err-place-clause-defect
returns-in_err-place-clause-defect c =
    let text = c.args.text.now in
    let place = c.loop-place.place in
    let inv = c.loop-place.invariant in
    let some : 0 < length (drop place text) = omega (arith, length-drop place text, c.loop-place-test.true) in
    let is = err_from_is_err_and c.from_residual-in_err-place.result c.from_residual-in_err-place.ensures.1 in
    λ same. refused text place _ inv.state some (rw rest_is at (c.in_err-place.ensures.defect (cc))) inv.reader inv.parsed

pub loop-place-preserved : goal.loop-place-preserved
loop-place-preserved c =
    let text = c.args.text.now in
    let place = c.loop-place.place in
    let inv = c.loop-place.invariant in
    let f = rw rest_is at c.in_ok-place.ensures.ok in
    let further : place + c.in_ok-place.field-0 ≤ length text = omega (arith, f.within, inv.within, length-drop place text) in
    let t = f.takes inv.state inv.reader in
    record {
      within = further;
      state = t.0;
      reader = t.2;
      parsed = parsed_further text place inv.state t.0 f.token _ f.some f.within f.first t.1 inv.parsed;
    }

pub returns-clause-ok : goal.returns-clause-ok
returns-clause-ok c =
    let inv = c.loop-place.invariant in
    IfOk-weaker c.finish.result _ _ (λ w h. ended c.args.text.now c.loop-place.place inv.state w c.loop-place-test.false inv.parsed (h inv.state inv.reader)) c.finish.ensures.ok

pub returns-clause-defect : goal.returns-clause-defect
returns-clause-defect c =
    let inv = c.loop-place.invariant in
    λ same. not_ended c.args.text.now c.loop-place.place inv.state c.loop-place-test.false inv.parsed (c.finish.ensures.defect same inv.state inv.reader)
