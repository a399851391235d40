use Rattle.std.proofs.Common.{refl}
use Rattle.pm_regex.specs.declared.op.Op.TheVariants as op
use Rattle.pm_regex.proofs.GroupLemmas.{pushed}
use Rattle.pm_regex.proofs.group.bar.Goals as goal

pub returns : goal.returns
returns c = λ f fs s. record {
  stack = pushed _ _ op.Nothing _ c.in_ok-push.ensures.items (c.in_ok-end_branch.ensures f fs s);
  group = (refl, refl, (s.group).2);
}
