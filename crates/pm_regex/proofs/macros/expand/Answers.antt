use Rattle.std.proofs.Common.{◌<◌, length, drop, arith, length-drop}
use Rattle.std.proofs.lemmas.Result.{err_from_is_err_and}
use Rattle.pm_regex.proofs.ExpandLemmas.{rest_is, part_further, too_long, expanded_whole}
use Rattle.pm_regex.proofs.macros.expand.Goals as goal

pub returns-in_err-place-clause-defect : goal.returns-in_err-place-clause-defect
returns-in_err-place-clause-defect c =
    let text = c.args.text.now in
    let place = c.loop-place.place in
    let x = c.loop-place.invariant.expanded in
    let some : 0 < length (drop place text) = omega (arith, length-drop place text) in
    let is = err_from_is_err_and c.from_residual.result c.from_residual.ensures.1 in
    λ same. too_long text place c.loop-place.after.items some (rw rest_is at (c.in_err-place.ensures.defect cc)) x

pub loop-place-preserved : goal.loop-place-preserved
loop-place-preserved c =
    let p = rw rest_is at c.in_ok-place.ensures.ok in
    record {
      within = omega (arith, p.within, length-drop c.loop-place.place c.args.text.now);
      room = (p.puts).room;
      expanded = part_further _ _ _ _ _ p c.loop-place.invariant.expanded;
    }

pub returns-clause-ok : goal.returns-clause-ok
returns-clause-ok c = (expanded_whole _ _ _ c.loop-place-test.false c.loop-place.invariant.expanded, c.loop-place.invariant.room)
