use Rattle.pm_recipe.proofs.ColonText.{flags-read, lock-wanting, lock-read, read-once}
use Rattle.pm_recipe.proofs.laws.colon_line_law.Goals as goal

pub returns-clause-flags : goal.returns-clause-flags
returns-clause-flags c = λ text after h. flags-read text after h

pub returns-clause-none : goal.returns-clause-none
returns-clause-none c = λ text after h none. lock-wanting text after h none

pub returns-clause-lock : goal.returns-clause-lock
returns-clause-lock c = λ text lock tail h value. lock-read text lock tail h value

pub returns-clause-junk : goal.returns-clause-junk
returns-clause-junk c = λ text flags lock junk form. (read-once text flags lock junk form).junk_is
