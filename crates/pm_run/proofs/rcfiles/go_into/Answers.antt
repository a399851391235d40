use Rattle.std.proofs.Common.{refl, rules}
use Rattle.pm_run.proofs.rcfiles.go_into.Goals as goal

pub returns-clause-into : goal.returns-clause-into
returns-clause-into c = record {
  mind = search rules;
  code_is = c.replace-left.ensures.after;
  place = refl;
  blocks = search rules;
  outer = search rules;
}
