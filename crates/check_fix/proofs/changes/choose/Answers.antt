use Rattle.std.proofs.Common.{sym, subst}
use Rattle.check_fix.specs.Changes.{AreApart}
use Rattle.check_fix.proofs.Apart.{chosen_apart}
use Rattle.check_fix.proofs.changes.choose.Goals as goal

pub returns-clause-apart : goal.returns-clause-apart
returns-clause-apart c =
    subst (λ changes. AreApart 0 c.args.size changes) (sym c.in_ok-changes.ensures) (chosen_apart 0 c.args.size c.args.edits.now)
