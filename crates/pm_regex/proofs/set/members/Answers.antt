use Rattle.std.proofs.Common.{◌≡◌, ◌+◌, ◌≤◌, false, length, drop, arith, length-drop}
use Rattle.std.proofs.lemmas.Result.{err_from_is_err_and}
use Rattle.pm_regex.specs.Tokens.{begins_with}
use Rattle.pm_regex.proofs.ExpandLemmas.{rest_is}
use Rattle.pm_regex.proofs.SetLemmas.{first_read, next_read, no_next, never_closed, all_read, begins_at}
use Rattle.pm_regex.proofs.set.members.Goals as goal

pub loop-place-init : goal.loop-place-init
loop-place-init c = record {
  within = (c.in_ok-place.ensures.ok).within;
  read = first_read _ _ _ _ c.in_ok-place.ensures.ok;
}

pub returns-then-text-place-eq93-clause-ok : goal.returns-then-text-place-eq93-clause-ok
returns-then-text-place-eq93-clause-ok c =
    all_read _ _ _ c.loop-place.place c.loop-place-test.true c.if-text-place-eq93.true c.loop-place.invariant.read

pub returns-in_err-place-2-clause-defect : goal.returns-in_err-place-2-clause-defect
returns-in_err-place-2-clause-defect c =
    let place = c.loop-place.place in
    let is = err_from_is_err_and c.from_residual-in_err-place-2.result c.from_residual-in_err-place-2.ensures.1 in
    let other : begins_with 93 (drop place c.args.text.now) ≡ false =
    begins_at c.args.text.now 93 place c.if-text-place-eq93.false c.loop-place-test.true in
    λ same. no_next _ _ _ place other c.loop-place.invariant.read (rw rest_is at (c.in_err-place-2.ensures.defect cc))

pub loop-place-preserved : goal.loop-place-preserved
loop-place-preserved c =
    let place = c.loop-place.place in
    let r = rw rest_is at c.in_ok-place-2.ensures.ok in
    let other : begins_with 93 (drop place c.args.text.now) ≡ false =
    begins_at c.args.text.now 93 place c.if-text-place-eq93.false c.loop-place-test.true in
    let further : place + c.in_ok-place-2.field-0 ≤ length c.args.text.now = omega (arith, r.within, length-drop place c.args.text.now) in
    record {
      within = further;
      read = next_read _ _ _ _ place _ other r c.loop-place.invariant.read;
    }

pub returns-clause-defect : goal.returns-clause-defect
returns-clause-defect c = λ same. never_closed _ _ _ c.loop-place.place c.loop-place-test.false c.loop-place.invariant.read
