use Rattle.std.proofs.Common.{refl, ◌∷◌}
use Rattle.pm_regex.proofs.group.close.Goals as goal

pub returns : goal.returns
returns c = λ f g gs s is. record { stack = c.in_ok-end_branch.ensures f (g ∷ gs) s; group = (is.0, refl, is.2) }
