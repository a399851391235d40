use Rattle.explain_run.proofs.Finding.{finds_conditions, leaves_actions}
use Rattle.explain_run.proofs.laws.condition_law.Goals as goal

pub returns : goal.returns
returns c = record {
  finds = λ conditions flags p n es noted h before after index b low high. finds_conditions conditions flags p n es noted h before after index b low high;
  leaves = λ conditions flags p n es noted h index past. leaves_actions conditions flags p n es noted h index past;
}
