use Rattle.std.proofs.Common.{◌<◌, ◌≤◌, length, drop, refl, sym, lit<, arith, length-drop}
use Rattle.std.proofs.lemmas.Bool.{eqb-false}
use Rattle.pm_regex.proofs.ExpandLemmas.{rest_is}
use Rattle.pm_regex.proofs.SetLemmas.{single_there, dash_there}
use Rattle.pm_regex.proofs.set.member.Goals as goal

pub returns-then-not-ends_range-clause-ok : goal.returns-then-not-ends_range-clause-ok
returns-then-not-ends_range-clause-ok c =
    let text = c.args.text.now in
    let ne = eqb-false (length text) 0 (sym c.if-is_empty.ensures) in
    let some : 0 < length text = omega (arith, ne) in
    record {
      first = _;
      last = _;
      some = lit< tt;
      within = omega (arith, some);
      member = single_there text some (sym (rw rest_is at c.if-not-ends_range.ensures.value));
      ops = c.in_ok-push.ensures.items;
    }

pub returns-clause-ok : goal.returns-clause-ok
returns-clause-ok c =
    let text = c.args.text.now in
    let two : 2 ≤ length (drop 1 text) = rw rest_is at (c.if-not-ends_range.ensures.within refl) in
    record {
      first = _;
      last = _;
      some = lit< tt;
      within = omega (arith, length-drop 1 text, two);
      member = dash_there text (sym (rw rest_is at c.if-not-ends_range.ensures.value)) c.if-last-first.false;
      ops = c.in_ok-push-2.ensures.items;
    }
