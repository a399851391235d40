use Rattle.std.proofs.Common.{sym, ◌∙◌}
use Rattle.pm_meaning.specs.Minds.{mind_of}
use Rattle.pm_run.proofs.EndLemmas.{was_set, now_set}
use Rattle.pm_run.proofs.ends.set_exit_status.Goals as goal

pub returns-then-is_code_set-clause-ok : goal.returns-then-is_code_set-clause-ok
returns-then-is_code_set-clause-ok c = was_set c.args.end (mind_of c.args.process.now) (sym c.is_code_set.ensures ∙ c.if-is_code_set.true)

pub returns-clause-ok : goal.returns-clause-ok
returns-clause-ok c = now_set c.args.end c.base_status-number.result c.in_ok-value.value (mind_of c.args.process.now) _ (sym c.is_code_set.ensures ∙ c.if-is_code_set.false) c.base_status-number.ensures c.in_ok-value.ensures c.in_ok-set.ensures.ok
