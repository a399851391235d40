use Rattle.std.proofs.lemmas.Bool.{not-false}
use Rattle.pm_regex.proofs.GroupLemmas.{joins}
use Rattle.pm_regex.proofs.group.join_last.Goals as goal

pub returns : goal.returns
returns c = λ f fs s. joins _ _ c.args.group f fs (not-false _ c.if-not-group.false) c.in_ok-push.ensures.items s
