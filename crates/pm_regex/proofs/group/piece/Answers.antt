use Rattle.std.proofs.Common.{refl}
use Rattle.pm_regex.specs.declared.op.Op.TheVariants as op
use Rattle.pm_regex.proofs.GroupLemmas.{pushed}
use Rattle.pm_regex.proofs.group.piece.Goals as goal

pub returns : goal.returns
returns c = λ f fs s. record {
  stack = pushed _ _ (op.One c.args.atom) _ c.in_ok-push.ensures.items (c.in_ok-join_last.ensures f fs s);
  group = ((s.group).0, refl, (s.group).2);
}
