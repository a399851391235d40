use Rattle.std.proofs.Common.{sym, ◌∙◌}
use Rattle.pm_journal.specs.Plan.{and_then, ask}
use Rattle.pm_journal.specs.declared.acts.Act.TheVariants.{Unlock}
use Rattle.pm_meaning.specs.Blocks.{without_lock, give_block_lock}
use Rattle.pm_meaning.specs.GlobalLock.{after_giving}
use Rattle.pm_meaning.specs.Minds.{mind_of}
use Rattle.pm_meaning.proofs.Choices.{carried}
use Rattle.pm_run.proofs.LeaveLemmas.{free_given, held_given}
use Rattle.pm_run.proofs.leaving.give_block_lock.Goals as goal

pub returns-then-not-holds-clause-carries : goal.returns-then-not-holds-clause-carries
returns-then-not-holds-clause-carries g c = (free_given c.args.name.now (mind_of c.args.run.now.process) _ _ (sym c.holds.ensures ∙ c.if-not-holds.true), tt)

pub returns-clause-carries : goal.returns-clause-carries
returns-clause-carries g c =
    let p = mind_of c.args.run.now.process in
    let name = c.args.name.now in
    carried (and_then (ask (Unlock name)) (after_giving name (without_lock name p))) (give_block_lock name p) _ _ _ _ _ _ (held_given name p (sym c.holds.ensures ∙ c.if-not-holds.false)) c.give_held.ensures.carries
