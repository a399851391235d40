use Rattle.std.proofs.Common.{◌≡◌, ℕ, List, sym, ◌∙◌, length, drop, arith, subst, length-drop, slice_range}
use Rattle.pm_vars.specs.Table.{Table}
use Rattle.pm_subst.specs.Buffer.{Holds}
use Rattle.pm_subst.specs.Fields.{gathered}
use Rattle.pm_subst.specs.Tokens.{Token, token_of, is_many}
use Rattle.pm_subst.specs.Words.{used_elements, first_output}
use Rattle.pm_subst.proofs.Turn.{gathered-turned, range-to_end}
use Rattle.pm_subst.proofs.expansion.fill.Goals as goal

pub loop-at-preserved : goal.loop-at-preserved
loop-at-preserved c =
    let table : Table = c.args.vars.now in
    let text = c.args.text.now in
    let on = c.loop-at.invariant.goes_on in
    let here : List ℕ = slice_range text c.loop-at.at (length text) in
    let here_is : drop c.loop-at.at text ≡ here = sym (range-to_end text c.loop-at.at) in
    let token : Token = token_of c.turn_at-front.result c.rule-rule.result.quoted here in
    let within = c.turn_at-front.ensures.within in
    record {
      within = omega (arith, length-drop c.loop-at.at text, within.taken);
      unused = omega (arith, c.unused_behind-unused.ensures.bound, within.some);
      splits = c.in_ok-push_used.ensures.splits ∙ c.loop-at.invariant.splits;
      goes_on = (
        gathered (is_many c.args.mode) on.0 (used_elements c.loop-at.unused table (first_output c.loop-at.outputs.now) token),
        subst (λ o. Holds c.push_used.new.buffer (gathered (is_many c.args.mode) on.0 (used_elements c.loop-at.unused table o token))) c.first_of-output.ensures
            (subst (λ s. Holds c.push_used.new.buffer (gathered s on.0 (used_elements c.loop-at.unused table c.first_of-output.result.now token))) c.loop-at.invariant.splits
            (c.in_ok-push_used.ensures.holds on.0 on.1)),
        on.2 ∙ gathered-turned c.args.mode c.loop-at.frames c.loop-at.fresh text c.loop-at.at here c.rule-rule.result c.turn_at-front.result _ _
            c.loop-at-test.true here_is c.rule-rule.ensures c.turn_at-front.ensures.turn within.some c.in_ok-pass.ensures c.fresh_behind-fresh.ensures
            (is_many c.args.mode) table c.loop-at.outputs.now c.loop-at.unused on.0 _ _
            (c.unused_behind-unused.ensures.unused c.rule-rule.result.quoted) c.outputs_behind-outputs.ensures,
      );
    }
