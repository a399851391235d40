use Rattle.std.proofs.Common.{◌≡◌, None, true, false, refl, rules, ap}
use Rattle.std.specs.Prelude.{codes}
use Rattle.pm_journal.specs.LogText.{no_lock_line}
use Rattle.pm_journal.proofs.WantsMemory.{on_err, out_anywhere, out_front}
use Rattle.pm_subst.specs.Commands.{commands_in}
use Rattle.pm_subst.specs.declared.kinds.Mode.TheVariants.{One}
use Rattle.pm_meaning.specs.Blocks.{enter_with, enter_under}
use Rattle.pm_meaning.specs.Minds.{mind_of}
use Rattle.pm_meaning.specs.Outputs.{outputs_with, outputs_of}
use Rattle.pm_meaning.specs.Texts.{is_empty}
use Rattle.pm_meaning.specs.Turns.{Enters}
use Rattle.pm_meaning.proofs.Choices.{line_told, line_out}
use Rattle.pm_meaning.proofs.Choices.{carried}
use Rattle.pm_meaning.proofs.Sequences.{then_carries}
use Rattle.pm_run.proofs.GateLemmas.{locks_with, no_text, text_runs, gate_in, gate_out}
use Rattle.pm_run.proofs.gates.enter_under.Goals as goal

pub returns-in_err-line : goal.returns-in_err-line
returns-in_err-line g c = record { carries = (search rules, on_err _ _ (out_anywhere _ _ _ _ refl)) }

pub returns-in_err-tell : goal.returns-in_err-tell
returns-in_err-tell g c = record {
  carries = (
      let p = mind_of c.args.run.now.process in
      let text = c.args.text.now in
      let e : is_empty text ≡ true = search rules in
      (search rules, on_err _ _ (gate_out _ (enter_under text p) _ _ _ _ (no_text text p e) (line_out p (no_lock_line (codes "{")) _ (Enters None p) _ _ _ _ c.in_ok-line.ensures c.in_err-tell.ensures.carries.1))));
}

pub returns-then-is_empty : goal.returns-then-is_empty
returns-then-is_empty g c = record {
  carries = (
      let p = mind_of c.args.run.now.process in
      let text = c.args.text.now in
      let e : is_empty text ≡ true = search rules in
      rw c.tell.ensures.same (gate_in _ (enter_under text p) (Enters None p) _ _ _ _ (no_text text p e) (line_told p (no_lock_line (codes "{")) _ (Enters None p) _ _ _ _ c.in_ok-line.ensures c.in_ok-tell.ensures.carries.0), tt));
}

pub returns-in_err-outputs : goal.returns-in_err-outputs
returns-in_err-outputs g c = record {
  carries = (
      let p = mind_of c.args.run.now.process in
      let text = c.args.text.now in
      let e : is_empty text ≡ false = search rules in
      (search rules, on_err _ _ (gate_out _ (enter_under text p) _ _ _ _ (text_runs text p e) (out_front (outputs_of (commands_in One text) p) (locks_with text) _ _ _ _ c.in_err-outputs.ensures.carries.1))));
}

pub returns : goal.returns
returns g c = record {
  carries = (
      let p = mind_of c.args.run.now.process in
      let text = c.args.text.now in
      let ran = outputs_with c.in_ok-outputs.outputs.items (mind_of c.outputs_of.new.run.process) in
      let e : is_empty text ≡ false = search rules in
      carried _ (enter_under text p) _ _ _ _ _ _ (text_runs text p e)
      (then_carries (outputs_of (commands_in One text) p) (locks_with text) ran _ _ _ _ _ _ _ _ c.in_ok-outputs.ensures.carries.0 (carried _ (locks_with text ran) _ _ _ _ _ _ (ap (λ l. enter_with text l ran.mind) c.as_slice.ensures.value) c.enter_expanded.ensures.carries)));
}
