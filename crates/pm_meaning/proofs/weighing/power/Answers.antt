use Rattle.std.proofs.Common.{◌≡◌, ◌^◌, ◌∙◌, ap, sym, arith}
use Rattle.pm_meaning.proofs.ScoreLemmas.{first_power, third_power, third_bound}
use Rattle.pm_meaning.proofs.weighing.power.Goals as goal

pub returns-in-1-clause-value : goal.returns-in-1-clause-value
returns-in-1-clause-value c = first_power c.args.base ∙ ap (λ x. c.args.base ^ x) (sym c.in-1.is)

pub returns-in_default-clause-value : goal.returns-in_default-clause-value
returns-in_default-clause-value c =
    let three : 3 ≡ c.args.x = omega arith in
    third_power c.args.base ∙ ap (λ x. c.args.base ^ x) three

pub returns-in_default-clause-bound : goal.returns-in_default-clause-bound
returns-in_default-clause-bound c = third_bound c.args.base (c.requires.bounded (omega arith))
