use Rattle.std.proofs.Common.{◌≡◌, ◌∷◌, sym, ◌∙◌}
use Rattle.log_summary.specs.Tallies.{with_delivery, with_message}
use Rattle.log_summary.specs.LogLines.{delivery_in, message_in}
use Rattle.log_summary.proofs.Summing.{line_counts, line_is_skipped}
use Rattle.log_summary.proofs.summary.add_log.Goals as goal

-- the line is counted
pub loop-line-preserved-in-Continue-1 : goal.loop-line-preserved-in-Continue-1
loop-line-preserved-in-Continue-1 c =
    let took : c.loop-line.line-iterator ≡ c.in-Some.line.now ∷ c.next.new.self = c.in-Some.ensures.steps in
    let before = rw took at c.loop-line.invariant in
    let none = sym c.after_line-awaited.ensures ∙ c.in-None-awaited.is in
    let added = c.in_ok-add_line-in-None-awaited.ensures in
    rw (added.folders, added.messages, c.in-None-awaited.is) (
      line_counts (λ rows line. with_delivery (delivery_in line) rows) c.loop-line.awaited c.in-Some.line.now c.next.new.self c.loop-line.sums.folders _ none before.0,
      line_counts (λ rows line. with_message (message_in line) rows) c.loop-line.awaited c.in-Some.line.now c.next.new.self c.loop-line.sums.messages _ none before.1,
    )

-- the day is still to come
pub loop-line-preserved : goal.loop-line-preserved
loop-line-preserved c =
    let took : c.loop-line.line-iterator ≡ c.in-Some.line.now ∷ c.next.new.self = c.in-Some.ensures.steps in
    let before = rw took at c.loop-line.invariant in
    let some = sym c.after_line-awaited.ensures ∙ c.in-Some-awaited.is in
    rw c.in-Some-awaited.is (
      line_is_skipped (λ rows line. with_delivery (delivery_in line) rows) c.loop-line.awaited c.in-Some.line.now c.next.new.self c.loop-line.sums.folders _ _ some before.0,
      line_is_skipped (λ rows line. with_message (message_in line) rows) c.loop-line.awaited c.in-Some.line.now c.next.new.self c.loop-line.sums.messages _ _ some before.1,
    )
