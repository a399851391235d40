use Rattle.std.proofs.Common.{sym, ◌∙◌}
use Rattle.pm_match.proofs.CacheLemmas.{same_items}
use Rattle.pm_match.proofs.cache.is_same.Goals as goal

pub returns : goal.returns
returns c = λ yes. same_items c.args.one.now c.args.other.now (sym c.eq.ensures ∙ yes)
