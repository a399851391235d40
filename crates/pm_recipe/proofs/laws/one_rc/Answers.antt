use Rattle.std.proofs.Common.{refl}
use Rattle.pm_recipe.specs.Listed.{rc_of}
use Rattle.pm_recipe.proofs.OneRc.{rc-built, built-rc}
use Rattle.pm_recipe.proofs.laws.one_rc.Goals as goal

pub returns-clause-some : goal.returns-clause-some
returns-clause-some c = λ text. rc-built text (rc_of text) refl

pub returns-clause-once : goal.returns-clause-once
returns-clause-once c = λ text statements r. built-rc text statements r
