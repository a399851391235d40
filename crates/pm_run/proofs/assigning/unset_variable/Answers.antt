use Rattle.std.proofs.Common.{sym, ap, ◌∙◌}
use Rattle.pm_meaning.specs.Assigning.{unset}
use Rattle.pm_meaning.specs.GlobalLock.{drop_lock}
use Rattle.pm_meaning.specs.Minds.{mind_of}
use Rattle.pm_meaning.specs.Turns.{GoesOn, EndsFile}
use Rattle.pm_meaning.proofs.Choices.{carried}
use Rattle.pm_run.proofs.AssignLemmas.{ended, switch_unset, lock_unset, unset_plainly}
use Rattle.pm_run.proofs.assigning.unset_variable.Goals as goal

pub returns-then-is_switchrc : goal.returns-then-is_switchrc
returns-then-is_switchrc g c = record {
  carries = (
      let p = mind_of c.args.run.now.process in
      let q = record p { vars = c.unset.new.self } in
      (ended (EndsFile q) _ _ _ (switch_unset c.args.name.now p q (sym c.is_switchrc.ensures ∙ c.if-is_switchrc.true) (ap (λ v. record p { vars = v }) c.unset.ensures)), tt));
}

pub returns-then-is_lockfile : goal.returns-then-is_lockfile
returns-then-is_lockfile g c = record {
  carries = (
      let p = mind_of c.args.run.now.process in
      let q = record p { vars = c.unset.new.self } in
      let same = lock_unset c.args.name.now p q (sym c.is_switchrc.ensures ∙ c.if-is_switchrc.false) (sym c.is_lockfile.ensures ∙ c.if-is_lockfile.true) (ap (λ v. record p { vars = v }) c.unset.ensures) in
      c.turned_by.ensures _ _ _ _ _ _ (carried (drop_lock q) (unset c.args.name.now p) _ _ _ _ _ _ same c.drop_lock.ensures.carries));
}

pub returns-else-is_lockfile : goal.returns-else-is_lockfile
returns-else-is_lockfile g c = record {
  carries = (
      let p = mind_of c.args.run.now.process in
      let q = record p { vars = c.unset.new.self } in
      (ended (GoesOn q) _ _ _ (unset_plainly c.args.name.now p q (sym c.is_switchrc.ensures ∙ c.if-is_switchrc.false) (sym c.is_lockfile.ensures ∙ c.if-is_lockfile.false) (ap (λ v. record p { vars = v }) c.unset.ensures)), tt));
}
