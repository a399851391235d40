use Rattle.std.proofs.Common.{refl, sym, ◌∙◌, subst}
use Rattle.pm_journal.specs.Held.{Keeping}
use Rattle.pm_journal.proofs.KeepingActs.{keeping_plain}
use Rattle.pm_meaning.specs.Minds.{mind_of}
use Rattle.pm_perform.proofs.ErrandLemmas.{was_fed}
use Rattle.pm_perform.proofs.errands.feed.Goals as goal

pub returns-clause-feeds : goal.returns-clause-feeds
returns-clause-feeds g c =
    λ folder is. was_fed c.args.flags folder c.args.command c.args.input _ c.args.kept c.in-Ok.end _ (mind_of c.args.run.now.process) (mind_of c.keep_if.new.process) (mind_of c.note_code.new.process) c.args.run.now.journal c.run.new.journal _ _
    c.len-count.ensures is c.in-Ok.ensures.ok c.feed_outcome-outcome.ensures c.keep_if.ensures.mind c.note_code.ensures.mind

pub invariant_of-run : goal.invariant_of-run
invariant_of-run g c =
    let kept = subst (λ l. Keeping c.run.new.journal l.names) (sym (c.note_code.ensures.locks ∙ c.keep_if.ensures.locks))
    (keeping_plain _ _ c.args.run.now.journal c.args.run.now.journal c.run.new.journal _ _ _ tt (record { keeps = c.args.run.now.keeps; room = c.args.run.now.room }) refl c.requires.room c.in-Ok.ensures.ok.notes) in
    record { keeps = kept.keeps; room = kept.room }
