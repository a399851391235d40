use Rattle.pm_regex.specs.declared.op.Op.TheVariants as op
use Rattle.pm_regex.proofs.GroupLemmas.{pushed}
use Rattle.pm_regex.proofs.group.open.Goals as goal

pub returns : goal.returns
returns c = λ f fs s. record {
  stack = pushed _ _ op.Nothing _ c.in_ok-push.ensures.items (c.in_ok-join_last.ensures f fs s);
  group = c.fresh_group.ensures;
}
