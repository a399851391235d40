use Rattle.std.proofs.Common.{refl, rules, ap, ◌∙◌}
use Rattle.pm_journal.specs.LogText.{value_too_long_line}
use Rattle.pm_journal.proofs.WantsMemory.{on_err, out_anywhere}
use Rattle.pm_meaning.specs.Assigning.{first_word}
use Rattle.pm_meaning.specs.Blocks.{lock_block, enter_with}
use Rattle.pm_meaning.specs.Changes.{overflowed}
use Rattle.pm_meaning.specs.Minds.{mind_of}
use Rattle.pm_meaning.specs.Turns.{GoesOn, say_then}
use Rattle.pm_meaning.proofs.Choices.{carried}
use Rattle.pm_run.proofs.GateLemmas.{text_long, text_value, gate_of_end, gate_out}
use Rattle.pm_run.proofs.gates.enter_expanded.Goals as goal

pub returns-in_err-words : goal.returns-in_err-words
returns-in_err-words g c = record { carries = (search rules, on_err _ _ (out_anywhere _ _ _ _ refl)) }

pub returns-in-Words : goal.returns-in-Words
returns-in-Words g c = record {
  carries = (
      let p = mind_of c.args.run.now.process in
      let text = c.args.text.now in
      let k = rw c.in-Words.is at c.in_ok-words.ensures in
      let value = c.as_slice.ensures ∙ (c.first_word-value.ensures ∙ ap first_word k.1) in
      carried (lock_block text c.as_slice.result.now p) (enter_with text c.args.outputs.now p) _ _ _ _ _ _ (text_value text c.as_slice.result.now c.args.outputs.now p k.0 value) c.lock_block.ensures.carries);
}

pub returns-in_err-skip_value-in-TooLong : goal.returns-in_err-skip_value-in-TooLong
returns-in_err-skip_value-in-TooLong g c = record {
  carries = (
      let p = mind_of c.args.run.now.process in
      let text = c.args.text.now in
      let k = rw c.in-TooLong.is at c.in_ok-words.ensures in
      let same = ap (λ n. say_then p (value_too_long_line n) (GoesOn (overflowed p))) k.1 ∙ text_long text c.args.outputs.now p k.0 in
      (search rules, on_err _ _ (gate_out _ (enter_with text c.args.outputs.now p) _ _ _ _ same c.in_err-skip_value-in-TooLong.ensures.carries.1)));
}

pub returns-in_ok-skip_value-in-TooLong : goal.returns-in_ok-skip_value-in-TooLong
returns-in_ok-skip_value-in-TooLong g c = record {
  carries = (
      let p = mind_of c.args.run.now.process in
      let text = c.args.text.now in
      let k = rw c.in-TooLong.is at c.in_ok-words.ensures in
      let same = ap (λ n. say_then p (value_too_long_line n) (GoesOn (overflowed p))) k.1 ∙ text_long text c.args.outputs.now p k.0 in
      (gate_of_end _ (enter_with text c.args.outputs.now p) c.in_ok-skip_value-in-TooLong.field-0 c.gate_by.result (mind_of c.skip_value.new.run.process) _ _ _ _ same c.gate_by.ensures c.in_ok-skip_value-in-TooLong.ensures.carries.0, tt));
}
