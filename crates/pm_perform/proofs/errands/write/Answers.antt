use Rattle.std.proofs.Common.{refl, sym, subst}
use Rattle.pm_journal.specs.Held.{Keeping}
use Rattle.pm_journal.proofs.KeepingActs.{keeping_plain}
use Rattle.pm_meaning.specs.Minds.{mind_of}
use Rattle.pm_perform.proofs.ErrandLemmas.{was_written}
use Rattle.pm_perform.proofs.errands.write.Goals as goal

pub returns-clause-writes : goal.returns-clause-writes
returns-clause-writes g c =
    λ is. was_written c.args.piece c.args.kept c.write_out.result _ (mind_of c.args.run.now.process) (mind_of c.keep_if.new.process) c.args.run.now.journal c.write_out.new.journal _ _ is c.write_out.ensures c.write_outcome-outcome.ensures c.keep_if.ensures.mind

pub invariant_of-run : goal.invariant_of-run
invariant_of-run g c =
    let kept = subst (λ l. Keeping c.write_out.new.journal l.names) (sym c.keep_if.ensures.locks)
    (keeping_plain _ _ c.args.run.now.journal c.args.run.now.journal c.write_out.new.journal _ _ _ tt (record { keeps = c.args.run.now.keeps; room = c.args.run.now.room }) refl c.requires.room c.write_out.ensures) in
    record { keeps = kept.keeps; room = kept.room }
