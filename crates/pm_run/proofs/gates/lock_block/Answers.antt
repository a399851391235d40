use Rattle.std.proofs.Common.{refl, rules, sym, ap, ◌∙◌}
use Rattle.pm_bytes.specs.Path.{full_name}
use Rattle.pm_journal.specs.Locking.{lock_act}
use Rattle.pm_journal.specs.Plan.{and_then, ask}
use Rattle.pm_journal.proofs.WantsMemory.{on_err, out_anywhere}
use Rattle.pm_meaning.specs.Blocks.{got_block_lock, lock_block}
use Rattle.pm_meaning.specs.Locks.{rule_of}
use Rattle.pm_meaning.specs.Minds.{mind_of}
use Rattle.pm_meaning.proofs.Choices.{carried}
use Rattle.pm_run.proofs.AssignLemmas.{usable_then}
use Rattle.pm_run.proofs.GateLemmas.{is_held, is_free, gate_of_end, gate_out}
use Rattle.pm_run.proofs.gates.lock_block.Goals as goal

pub returns-in_err-file_name : goal.returns-in_err-file_name
returns-in_err-file_name g c = record { carries = (search rules, on_err _ _ (out_anywhere _ _ _ _ refl)) }

pub returns-in_err-lock-in-Some : goal.returns-in_err-lock-in-Some
returns-in_err-lock-in-Some g c = record { carries = (search rules, on_err _ _ (out_anywhere _ _ _ _ refl)) }

pub returns-in_err-refuse-in-Some : goal.returns-in_err-refuse-in-Some
returns-in_err-refuse-in-Some g c = record {
  carries = (
      let p = mind_of c.args.run.now.process in
      let text = c.args.text.now in
      let value = c.args.value.now in
      let u = usable_then value c.in-Some.name (rw c.in-Some.is at c.in_ok-file_name.ensures) in
      let name = c.in_ok-lock-in-Some.ensures ∙ ap (full_name p.base) u.1 in
      let same = is_held text value c.in_ok-lock-in-Some.lock p u.0 name (sym c.holds.ensures ∙ c.if-holds.true) in
      (search rules, on_err _ _ (gate_out _ (lock_block text value p) _ _ _ _ same c.in_err-refuse-in-Some.ensures.carries.1)));
}

pub returns-then-holds : goal.returns-then-holds
returns-then-holds g c = record {
  carries = (
      let p = mind_of c.args.run.now.process in
      let text = c.args.text.now in
      let value = c.args.value.now in
      let u = usable_then value c.in-Some.name (rw c.in-Some.is at c.in_ok-file_name.ensures) in
      let name = c.in_ok-lock-in-Some.ensures ∙ ap (full_name p.base) u.1 in
      let same = is_held text value c.in_ok-lock-in-Some.lock p u.0 name (sym c.holds.ensures ∙ c.if-holds.true) in
      (gate_of_end _ (lock_block text value p) c.in_ok-refuse-in-Some.field-0 c.gate_by-then-holds.result _ _ _ _ _ same c.gate_by-then-holds.ensures c.in_ok-refuse-in-Some.ensures.carries.0, tt));
}

pub returns-else-holds : goal.returns-else-holds
returns-else-holds g c = record {
  carries = (
      let p = mind_of c.args.run.now.process in
      let text = c.args.text.now in
      let value = c.args.value.now in
      let u = usable_then value c.in-Some.name (rw c.in-Some.is at c.in_ok-file_name.ensures) in
      let name = c.in_ok-lock-in-Some.ensures ∙ ap (full_name p.base) u.1 in
      let lock = c.in_ok-lock-in-Some.lock in
      let same = is_free text value lock p u.0 name (sym c.holds.ensures ∙ c.if-holds.false) in
      carried (and_then (ask (lock_act lock (rule_of p.vars))) (got_block_lock lock p)) (lock_block text value p) _ _ _ _ _ _ same c.ask_lock.ensures.carries);
}
