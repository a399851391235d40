use Rattle.std.proofs.lemmas.Bool.{not-false}
use Rattle.pm_regex.proofs.GroupLemmas.{ends}
use Rattle.pm_regex.proofs.group.end_branch.Goals as goal

pub returns : goal.returns
returns c = λ f fs s. ends _ _ c.args.group f fs (not-false _ c.if-not-group.false) c.in_ok-push.ensures.items s.group (c.in_ok-join_last.ensures f fs s)
