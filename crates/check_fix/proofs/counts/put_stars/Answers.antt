use Rattle.std.proofs.Common.{ℕ, List, ◌++◌, ◌∙◌, sym, ap, drop}
use Rattle.std.proofs.lemmas.List.{append-nil}
use Rattle.check_fix.specs.Counts.{star_edits}
use Rattle.check_fix.specs.declared.edits.Edit.{Edit}
use Rattle.check_fix.proofs.NoneLeft.{none_starred}
use Rattle.check_fix.proofs.counts.put_stars.Goals as goal

pub returns-then-left-eq0 : goal.returns-then-left-eq0
returns-then-left-eq0 c =
    sym (append-nil c.loop-span.edits.items)
    ∙ (ap (λ (more : List Edit). c.loop-span.edits.items ++ more)
    (sym (ap (λ (left : ℕ). star_edits left (drop c.loop-span.span-index c.args.spans.now)) c.if-left-eq0.true
    ∙ none_starred (drop c.loop-span.span-index c.args.spans.now)))
    ∙ c.loop-span.invariant)
