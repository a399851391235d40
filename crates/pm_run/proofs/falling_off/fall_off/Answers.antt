use Rattle.std.proofs.Common.{[], refl, rules}
use Rattle.pm_journal.proofs.WalkJoin.{reaches_after}
use Rattle.pm_journal.proofs.WantsMemory.{on_err, out_anywhere}
use Rattle.pm_meaning.specs.Minds.{mind_of}
use Rattle.pm_meaning.specs.Running.{Running, FallingOff, Over, step}
use Rattle.pm_meaning.proofs.Choices.{ok_map, err_map}
use Rattle.pm_run.specs.RunningOut.{MayRunOut}
use Rattle.pm_run.proofs.RunOutLemmas.{ran_out_at_once, ran_out_after}
use Rattle.pm_run.proofs.FallLemmas.{falls}
use Rattle.pm_run.proofs.falling_off.fall_off.Goals as goal

pub returns-in_err-mailboxes : goal.returns-in_err-mailboxes
returns-in_err-mailboxes g c = record {
  walks = (
      let start = Running [] (mind_of c.args.run.now.process) in
      (search rules, on_err _ _ (ran_out_at_once step MayRunOut start _ _ _ _ (out_anywhere (step start) _ _ _ refl) (λ more e. tt))));
}

pub returns : goal.returns
returns g c = record {
  walks = (
      let p = mind_of c.args.run.now.process in
      let start = Running [] p in
      let left = FallingOff c.in_ok-mailboxes.mailboxes.items p in
      let fell = falls p c.in_ok-mailboxes.mailboxes.items c.args.run.now.journal (g.D.Asks.told c.args.run.now.outside) c.in_ok-mailboxes.ensures in (
        ok_map _ _ _ (λ end h. reaches_after step start left (Over end (mind_of c.try_each.new.run.process)) c.args.run.now.journal c.args.run.now.journal c.try_each.new.run.journal _ _ _ fell h) c.try_each.ensures.walks.0,
        err_map _ _ _ (λ h. ran_out_after step MayRunOut start left c.args.run.now.journal c.args.run.now.journal c.try_each.new.run.journal _ _ _ fell h) c.try_each.ensures.walks.1,
      ));
}
