use Rattle.pm_conds.proofs.conditions.+ask.Given as goal

abbrev pub decreases-ask : goal.decreases-ask
decreases-ask g l = l.left
