use Rattle.std.proofs.Common.{[], arith}
use Rattle.pm_regex.specs.Re.{nothing}
use Rattle.pm_match.proofs.CountLemmas.{run_end}
use Rattle.pm_match.proofs.count.count.Goals as goal

pub count_on-requires-clause-runs : goal.count_on-requires-clause-runs
count_on-requires-clause-runs c =
    let r = c.requires in (r.0, r.1, c.loop-at.invariant.kept r.0 nothing r.1 (c.expected-again.ensures r.0 nothing r.1 r.2))

pub returns-then-is_reserved-clause-kept : goal.returns-then-is_reserved-clause-kept
returns-then-is_reserved-clause-kept c = λ l r fold h. c.count_on.ensures.kept l r fold (c.loop-at.invariant.kept l r fold (c.expected-again.ensures l r fold h))

pub returns-then-is_reserved-clause-counted : goal.returns-then-is_reserved-clause-counted
returns-then-is_reserved-clause-counted c = λ e fold h.
    let now = c.expected-again.ensures e nothing fold h in
    c.count_on.ensures.counted e fold (c.loop-at.invariant.kept e nothing fold now) (c.loop-at.invariant.counted e fold now)

pub count_next-at-requires-clause-runs : goal.count_next-at-requires-clause-runs
count_next-at-requires-clause-runs c =
    let r = c.requires in (r.0, r.1, c.loop-at.invariant.kept r.0 nothing r.1 (c.expected-again.ensures r.0 nothing r.1 r.2))

pub loop-at-preserved : goal.loop-at-preserved
loop-at-preserved c = record {
  kept = λ l r fold h. c.count_next-at.ensures.kept l r fold (c.loop-at.invariant.kept l r fold h);
  few = c.count_next-at.ensures.few;
  within = c.count_next-at.ensures.within;
  counted = λ e fold h. c.count_next-at.ensures.counted e fold (c.loop-at.invariant.kept e nothing fold h) (c.loop-at.invariant.counted e fold h);
}

pub returns-clause-kept : goal.returns-clause-kept
returns-clause-kept c = λ l r fold h. c.loop-at.invariant.kept l r fold (c.expected-again.ensures l r fold h)

pub returns-clause-counted : goal.returns-clause-counted
returns-clause-counted c = λ e fold h.
    let end = c.loop-at-test.false in
    let now = c.expected-again.ensures e nothing fold h in
    let all = c.loop-at.invariant.counted e fold now [] (run_end fold e c.args.area.now c.loop-at.at.place (omega (arith, end))) in
    let size = all.2 in (all.0, all.1, omega (arith, size))
