use Rattle.std.proofs.Common.{refl, rules}
use Rattle.pm_journal.proofs.WantsMemory.{on_err, out_anywhere, out_front}
use Rattle.pm_meaning.specs.Assigning.{probed}
use Rattle.pm_meaning.specs.Minds.{mind_of}
use Rattle.pm_run.proofs.AssignLemmas.{folder_missed, folder_untold, probed_only}
use Rattle.pm_run.proofs.assigning.probe_folder.Goals as goal

pub returns-in_err-folder : goal.returns-in_err-folder
returns-in_err-folder g c = record { carries = (search rules, on_err _ _ (out_anywhere _ _ _ _ refl)) }

pub returns-in_err-probe : goal.returns-in_err-probe
returns-in_err-probe g c = record { carries = (search rules, on_err _ _ (out_front _ (probed c.args.name (mind_of c.args.run.now.process)) _ _ _ _ c.in_err-probe.ensures.carries.1)) }

pub returns-in_err-line-in_default : goal.returns-in_err-line-in_default
returns-in_err-line-in_default g c = record {
  carries = (search rules, on_err _ _ (probed_only c.args.name (mind_of c.args.run.now.process) _ _ _ _ _ c.in_ok-probe.ensures.carries.0));
}

pub returns-in_err-tell-in_default : goal.returns-in_err-tell-in_default
returns-in_err-tell-in_default g c = record {
  carries = (
    search rules,
    on_err _ _ (folder_untold c.args.name _ _ (mind_of c.args.run.now.process) _ c.args.run.now.journal c.probe.new.self.journal c.tell.new.run.journal _ _ _ c.in_default.not-Folder c.in_ok-folder.ensures c.in_ok-line-in_default.ensures c.in_ok-probe.ensures.carries.0 (rw c.probe.ensures.same at c.in_err-tell-in_default.ensures.carries.1)),
  );
}

pub returns-in_ok-tell-in_default : goal.returns-in_ok-tell-in_default
returns-in_ok-tell-in_default g c = record {
  carries = rw (c.tell.ensures.same, c.probe.ensures.same) (folder_missed c.args.name _ _ (mind_of c.args.run.now.process) _ c.args.run.now.journal c.probe.new.self.journal c.tell.new.run.journal _ _ _ c.in_default.not-Folder c.in_ok-folder.ensures c.in_ok-line-in_default.ensures c.in_ok-probe.ensures.carries.0 (rw c.probe.ensures.same at c.in_ok-tell-in_default.ensures.carries.0), tt);
}
