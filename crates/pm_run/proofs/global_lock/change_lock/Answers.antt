use Rattle.std.proofs.Common.{◌≡◌, false, refl, rules}
use Rattle.pm_journal.specs.Plan.{and_then}
use Rattle.pm_journal.proofs.WantsMemory.{on_err, out_anywhere}
use Rattle.pm_meaning.specs.GlobalLock.{give_named, take_lock, change_lock}
use Rattle.pm_meaning.specs.Minds.{mind_of}
use Rattle.pm_meaning.specs.Texts.{is_empty}
use Rattle.pm_meaning.proofs.Choices.{carried}
use Rattle.pm_run.proofs.AssignLemmas.{usable_then}
use Rattle.pm_run.proofs.GlobalLemmas.{named_value, given_out, given_then}
use Rattle.pm_run.proofs.global_lock.change_lock.Goals as goal

pub returns-in_err-name : goal.returns-in_err-name
returns-in_err-name g c = record { carries = (search rules, on_err _ _ (out_anywhere _ _ _ _ refl)) }

pub returns-in_err-give_lock-in-Some : goal.returns-in_err-give_lock-in-Some
returns-in_err-give_lock-in-Some g c = record {
  carries = (
      let p = mind_of c.args.run.now.process in
      let some : is_empty c.args.value.now ≡ false = search rules in
      let usable = usable_then c.args.value.now c.in-Some.name (rw c.in-Some.is at c.in_ok-name.ensures) in
      (search rules, on_err _ _ (given_out c.args.value.now p _ _ _ _ some usable.0 c.in_err-give_lock-in-Some.ensures.carries.1)));
}

pub returns-in_ok-give_lock-in-Some : goal.returns-in_ok-give_lock-in-Some
returns-in_ok-give_lock-in-Some g c = record {
  carries = (
      let p = mind_of c.args.run.now.process in
      let some : is_empty c.args.value.now ≡ false = search rules in
      let usable = usable_then c.args.value.now c.in-Some.name (rw c.in-Some.is at c.in_ok-name.ensures) in
      carried (and_then (give_named p.global p) (take_lock c.args.value.now)) (change_lock c.args.value.now p) _ _ _ _ _ _ (named_value c.args.value.now p some usable.0)
      (given_then c.args.value.now p (mind_of c.give_lock.new.run.process) _ _ c.args.run.now.journal c.give_lock.new.run.journal c.take_lock.new.run.journal _ _ _ c.in_ok-give_lock-in-Some.ensures.carries.0 c.take_lock.ensures.carries));
}
