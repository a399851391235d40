use Rattle.std.proofs.Common.{rules, refl, ap, ◌∙◌}
use Rattle.pm_journal.proofs.WantsMemory.{on_err, out_anywhere}
use Rattle.pm_journal.specs.LogText.{value_too_long_line}
use Rattle.pm_meaning.specs.Assigning.{first_word, assign_with}
use Rattle.pm_meaning.specs.Changes.{overflowed}
use Rattle.pm_meaning.specs.Minds.{mind_of}
use Rattle.pm_meaning.specs.Turns.{GoesOn, say_then}
use Rattle.pm_meaning.proofs.Choices.{carried}
use Rattle.pm_run.proofs.AssignLemmas.{value_assigned, value_skipped}
use Rattle.pm_run.proofs.assigning.assign_expanded.Goals as goal

pub returns-in_err-words : goal.returns-in_err-words
returns-in_err-words g c = record { carries = (search rules, on_err _ _ (out_anywhere _ _ _ _ refl)) }

pub returns-in-Words : goal.returns-in-Words
returns-in-Words g c = record {
  carries = (
      let p = mind_of c.args.run.now.process in
      let k = rw c.in-Words.is at c.in_ok-words.ensures in
      let same = value_assigned c.args.name.now c.args.text.now c.first_word-value.result c.args.outputs.now p k.0 (c.first_word-value.ensures ∙ ap first_word k.1) in
      carried _ (assign_with c.args.name.now c.args.text.now c.args.outputs.now p) _ _ _ _ _ _ same c.assign_value.ensures.carries);
}

pub returns-in-TooLong : goal.returns-in-TooLong
returns-in-TooLong g c = record {
  carries = (
      let p = mind_of c.args.run.now.process in
      let k = rw c.in-TooLong.is at c.in_ok-words.ensures in
      let same = ap (λ n. say_then p (value_too_long_line n) (GoesOn (overflowed p))) k.1 ∙ value_skipped c.args.name.now c.args.text.now c.args.outputs.now p k.0 in
      c.turned_by.ensures _ _ _ _ _ _ (carried _ (assign_with c.args.name.now c.args.text.now c.args.outputs.now p) _ _ _ _ _ _ same c.skip_value.ensures.carries));
}
