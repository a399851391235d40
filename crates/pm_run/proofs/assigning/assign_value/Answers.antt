use Rattle.std.proofs.Common.{rules, refl, sym, ◌∙◌}
use Rattle.pm_journal.proofs.WantsMemory.{on_err, out_anywhere}
use Rattle.pm_meaning.specs.Assigning.{assigned}
use Rattle.pm_meaning.specs.Minds.{mind_of}
use Rattle.pm_meaning.proofs.Choices.{carried}
use Rattle.pm_meaning.proofs.SkipLemmas.{set_then}
use Rattle.pm_run.proofs.AssignLemmas.{folder_changed, lock_changed, set_otherwise}
use Rattle.pm_run.proofs.assigning.assign_value.Goals as goal

pub returns-in_err-copy : goal.returns-in_err-copy
returns-in_err-copy g c = record { carries = (search rules, on_err _ _ (out_anywhere _ _ _ _ refl)) }

pub returns-in_err-set : goal.returns-in_err-set
returns-in_err-set g c = record { carries = (search rules, on_err _ _ (out_anywhere _ _ _ _ refl)) }

pub returns-then-is_maildir : goal.returns-then-is_maildir
returns-then-is_maildir g c = record {
  carries = (
      let p = mind_of c.args.run.now.process in
      let same = folder_changed c.args.name.now c.args.value c.as_slice.result.now p _ (sym c.is_maildir.ensures ∙ c.if-is_maildir.true) (c.as_slice.ensures ∙ c.in_ok-copy.ensures) (set_then c.args.name.now c.args.value p _ c.in_ok-set.ensures.ok) in
      c.turned_by.ensures _ _ _ _ _ _ (carried _ (assigned c.args.name.now c.args.value p) _ _ _ _ _ _ same c.move_to_folder.ensures.carries));
}

pub returns-then-is_lockfile : goal.returns-then-is_lockfile
returns-then-is_lockfile g c = record {
  carries = (
      let p = mind_of c.args.run.now.process in
      let same = lock_changed c.args.name.now c.args.value c.as_slice-then-is_lockfile.result.now p _ (sym c.is_maildir.ensures ∙ c.if-is_maildir.false) (sym c.is_lockfile.ensures ∙ c.if-is_lockfile.true) (c.as_slice-then-is_lockfile.ensures ∙ c.in_ok-copy.ensures) (set_then c.args.name.now c.args.value p _ c.in_ok-set.ensures.ok) in
      c.turned_by-then-is_lockfile.ensures _ _ _ _ _ _ (carried _ (assigned c.args.name.now c.args.value p) _ _ _ _ _ _ same c.change_lock.ensures.carries));
}

pub returns : goal.returns
returns g c = record {
  carries = (
      let p = mind_of c.args.run.now.process in
      let same = set_otherwise c.args.name.now c.args.value c.as_slice-else-is_lockfile.result.now p _ (sym c.is_maildir.ensures ∙ c.if-is_maildir.false) (sym c.is_lockfile.ensures ∙ c.if-is_lockfile.false) (c.as_slice-else-is_lockfile.ensures ∙ c.in_ok-copy.ensures) (set_then c.args.name.now c.args.value p _ c.in_ok-set.ensures.ok) in
      carried _ (assigned c.args.name.now c.args.value p) _ _ _ _ _ _ same c.change_other.ensures.carries);
}
