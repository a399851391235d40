use Rattle.std.proofs.Common.{sym, ◌∙◌}
use Rattle.pm_meaning.specs.Judging.{comes_of}
use Rattle.pm_meaning.specs.Minds.{mind_of}
use Rattle.pm_meaning.proofs.Choices.{carried}
use Rattle.pm_conds.proofs.ConditionLemmas.{bad_weight, questioned}
use Rattle.pm_conds.proofs.conditions.outcome.Goals as goal

pub returns-in-None : goal.returns-in-None
returns-in-None g c = record { carries = (bad_weight c.args.condition.now c.args.flags (mind_of c.args.run.now.process) _ _ (sym c.in-None.is ∙ c.question_of.ensures), tt) }

pub returns-in-Some : goal.returns-in-Some
returns-in-Some g c = record {
  carries = (
      let p = mind_of c.args.run.now.process in
      carried _ (comes_of c.args.condition.now c.args.flags p) _ _ _ _ _ _ (questioned c.args.condition.now c.args.flags p c.in-Some.question c.as_slice-text.result.now (sym c.in-Some.is ∙ c.question_of.ensures) c.as_slice-text.ensures) c.ask.ensures.carries);
}
