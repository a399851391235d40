use Rattle.std.proofs.Common.{◌≡◌, ◌+◌, true, false, sym, ◌∙◌, subst}
use Rattle.pm_match.specs.Forward.{IsLeastEnd}
use Rattle.pm_match.specs.Checkpoints.{CountsTo}
use Rattle.pm_match.proofs.MarkLemmas.{match_out, past, one_more}
use Rattle.pm_match.proofs.marks.count_at.Goals as goal

pub returns-then-not-is_marked-clause-counted : goal.returns-then-not-is_marked-clause-counted
returns-then-not-is_marked-clause-counted c = λ e fold start is by.
    past fold e c.args.area.now c.args.from.place
    (λ j within at. (
    let yes = c.requires.marked (match_out c.args.program.now e fold c.args.area.now c.args.from.place j is at) in
    let wrong : true ≡ false = sym yes ∙ c.if-not-is_marked.true in cc))
    start c.args.from.count by

pub returns-in-None-clause-counted : goal.returns-in-None-clause-counted
returns-in-None-clause-counted c = λ e fold start is by.
    past fold e c.args.area.now c.args.from.place
    (subst (λ x. IsLeastEnd fold e c.args.area.now c.args.from.place x) c.in-None.is (c.least_end.ensures.least e fold is))
    start c.args.from.count by

pub returns-in-Some-clause-counted : goal.returns-in-Some-clause-counted
returns-in-Some-clause-counted c = λ e fold start is by.
    subst (λ k. CountsTo fold e c.args.area.now start (c.args.from.count + 1) k) (sym c.after_match.ensures)
    (one_more fold e c.args.area.now c.args.from.place start c.args.from.count c.in-Some.end c.requires.within
    (subst (λ x. IsLeastEnd fold e c.args.area.now c.args.from.place x) c.in-Some.is (c.least_end.ensures.least e fold is)) by)
