use Rattle.std.proofs.Common.{◌≡◌, [], rules, arith}
use Rattle.pm_journal.proofs.PlanLeads.{leads_itself}
use Rattle.lockfile_top.proofs.TaskLemmas.{one_removed, all_removed}
use Rattle.lockfile_top.proofs.doing.give_up.Goals as goal

pub loop-name-init : goal.loop-name-init
loop-name-init g c = record { leads = leads_itself _ _ _; room = c.requires }

pub loop-name-preserved : goal.loop-name-preserved
loop-name-preserved g c = record {
  leads = one_removed _ _ c.loop-name.made.items c.pop.new.self.items c.in-Some.name _ _ _ _ _ _ _ c.loop-name.invariant.leads c.in-Some.ensures.items c.unlock.ensures;
  room = omega (arith, c.loop-name.invariant.room, c.in-Some.ensures.cases, c.unlock.ensures.room);
}

pub returns : goal.returns
returns g c = let e : c.loop-name.made.items ≡ [] = search rules in all_removed _ _ _ _ _ _ _ _ _ c.loop-name.invariant.leads e c.say.ensures
