use Rattle.std.proofs.lemmas.Bool.{not-false}
use Rattle.pm_regex.proofs.GroupLemmas.{repeats}
use Rattle.pm_regex.proofs.group.repeat.Goals as goal

pub returns : goal.returns
returns c = λ f fs s. repeats _ _ c.args.group f fs c.args.times (not-false _ c.if-not-group.false) c.in_ok-push.ensures.items s
