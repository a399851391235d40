use Rattle.std.proofs.Common.{◌≡◌, ◌<◌, ◌+◌, ◌-◌, List, ℕ, length, drop, slice_range, sym, ap, ◌∙◌, arith, length-drop}
use Rattle.std.proofs.lemmas.List.{drop-drop}
use Rattle.pm_recipe.specs.Spans.{newlines}
use Rattle.pm_recipe.proofs.Cut.{range-to_end}
use Rattle.pm_recipe.proofs.LineEnds.{one-newline, no-newline}
use Rattle.pm_recipe.proofs.newlines.newlines_in.Goals as goal

pub returns-in_default-clause-count : goal.returns-in_default-clause-count
returns-in_default-clause-count c =
    let rest = range-to_end c.args.text.now c.loop-at.at in
    let none : newlines (drop c.loop-at.at c.args.text.now) ≡ 0 = ap newlines (sym rest) ∙ no-newline (slice_range c.args.text.now c.loop-at.at (length c.args.text.now)) c.in_default.ensures in
    omega (arith, none, c.loop-at.invariant.counted)

pub loop-at-preserved : goal.loop-at-preserved
loop-at-preserved c =
    let text = c.args.text.now in
    let at = c.loop-at.at in
    let here : List ℕ = slice_range text at (length text) in
    let rest : here ≡ drop at text = range-to_end text at in
    let first = c.in-Some.ensures in
    let size : length here ≡ length text - at = ap length rest ∙ length-drop at text in
    let below : c.in-Some.end < length here = first.0.high in
    let turn : newlines here ≡ 1 + newlines (drop (c.in-Some.end + 1) here) = one-newline here c.in-Some.end below first.0.before first.1 in
    let behind : drop (c.in-Some.end + 1) here ≡ drop (at + (c.in-Some.end + 1)) text = ap (λ xs. drop (c.in-Some.end + 1) xs) rest ∙ drop-drop (c.in-Some.end + 1) at text in
    record {
      within = omega (arith, size, below, c.loop-at-test.true);
      bound = omega (arith, c.loop-at.invariant.bound);
      counted = omega (arith, c.loop-at.invariant.counted, turn, ap newlines rest, ap newlines behind);
    }
