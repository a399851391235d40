use Rattle.std.proofs.Common.{ℕ, ◌∙◌, sym, ap, drop}
use Rattle.check_fix.specs.Counts.{follow}
use Rattle.check_fix.proofs.NoneLeft.{none_follow}
use Rattle.check_fix.proofs.counts.follow.Goals as goal

pub returns-then-left-eq0 : goal.returns-then-left-eq0
returns-then-left-eq0 c =
    sym (sym c.loop-span.invariant
    ∙ (ap (λ (left : ℕ). follow left (drop c.loop-span.span-index c.args.spans.now)) c.if-left-eq0.true
    ∙ none_follow (drop c.loop-span.span-index c.args.spans.now)))
