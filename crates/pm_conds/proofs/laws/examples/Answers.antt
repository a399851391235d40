use Rattle.std.proofs.Common.{refl}
use Rattle.pm_conds.proofs.laws.examples.Goals as goal

-- each by computing
pub returns-clause-verdicts : goal.returns-clause-verdicts
returns-clause-verdicts c = record {
  holds = refl;
  holds_not = refl;
  no_answer = λ e. refl;
}

-- as where they are defined
pub returns-clause-leads : goal.returns-clause-leads
returns-clause-leads c = c.condition_examples.ensures.leads

pub returns-clause-tests : goal.returns-clause-tests
returns-clause-tests c = c.condition_examples.ensures.tests

pub returns-clause-judging : goal.returns-clause-judging
returns-clause-judging c = c.condition_examples.ensures.judging

pub returns-clause-notes : goal.returns-clause-notes
returns-clause-notes c = record {
  none_asked = refl;
  one_asked = λ act. refl;
  no_condition = λ p. refl;
  one_holds = λ p. refl;
  second_fails = λ p. refl;
  defect = λ p. refl;
  scores = λ p. refl;
}
