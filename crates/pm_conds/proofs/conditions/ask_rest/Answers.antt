use Rattle.std.proofs.Common.{sym, ◌∙◌}
use Rattle.pm_meaning.specs.Leads.{asking_of}
use Rattle.pm_meaning.specs.Evaluating.{test_outcome}
use Rattle.pm_meaning.specs.Judging.{seen, come_with, tested}
use Rattle.pm_meaning.specs.Minds.{mind_of}
use Rattle.pm_meaning.proofs.Choices.{carried}
use Rattle.pm_meaning.proofs.Sequences.{known_as}
use Rattle.pm_conds.proofs.ConditionLemmas.{plain_test}
use Rattle.pm_conds.proofs.conditions.ask_rest.Goals as goal

pub returns : goal.returns
returns g c = record {
  carries = (
      let p = mind_of c.args.run.now.process in
      let asking = asking_of c.args.text.now c.args.question.now in
      rw c.test.ensures.same
      (carried _ (tested c.args.flags asking p) _ _ _ _ _ _ (plain_test c.args.flags asking p (sym c.starts_with.ensures.value ∙ c.if-starts_with.false))
      (known_as (test_outcome asking (seen c.args.flags p)) (λ o. come_with o p) _ _ _ c.test.ensures.outcome)));
}
