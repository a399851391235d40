use Rattle.std.proofs.Common.{◌∙◌, subst, sym}
use Rattle.pm_journal.specs.Held.{Keeping}
use Rattle.pm_journal.proofs.KeepingActs.{keeping_taken}
use Rattle.pm_journal.proofs.ActLemmas.{taken_held}
use Rattle.pm_journal.proofs.locks.take.Goals as goal

pub returns-clause-held : goal.returns-clause-held
returns-clause-held g c = rw c.requires.twice at c.hold.ensures ∙ taken_held c.args.name c.args.rule _ c.args.held.now.names

pub returns-clause-keeping : goal.returns-clause-keeping
returns-clause-keeping g c =
    subst (Keeping c.lock-end.new.journal) (sym (rw c.requires.twice at c.hold.ensures ∙ taken_held c.args.name c.args.rule _ c.args.held.now.names))
    (keeping_taken _ _ _ _ _ _ _ _ c.requires.keeping c.requires.free c.requires.room c.lock-end.ensures)
