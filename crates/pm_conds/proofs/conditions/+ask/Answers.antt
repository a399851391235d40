use Rattle.std.proofs.Common.{◌≡◌, ◌<◌, ◌-◌, drop, rules, refl, sym, ap, ◌∙◌, arith}
use Rattle.std.proofs.lemmas.List.{take_rest}
use Rattle.pm_journal.specs.Plan.{Plan}
use Rattle.pm_journal.proofs.WantsMemory.{on_err, out_anywhere, out_front, out_then}
use Rattle.pm_subst.specs.Commands.{commands_in}
use Rattle.pm_subst.specs.declared.kinds.Mode.TheVariants.{Quoted}
use Rattle.pm_meaning.specs.Leads.{Asking, asking_of, after_blanks}
use Rattle.pm_meaning.specs.Assigning.{first_word}
use Rattle.pm_meaning.specs.Judging.{Come, comes_within, read_again}
use Rattle.pm_meaning.specs.Minds.{Mind, mind_of}
use Rattle.pm_meaning.specs.Outputs.{outputs_with, outputs_of}
use Rattle.pm_meaning.proofs.Choices.{carried}
use Rattle.pm_meaning.proofs.Sequences.{then_carries, out_same}
use Rattle.pm_conds.proofs.ConditionLemmas.{after_commands, tested_front, stopped_at, expanded_front, reads_again, long_after, ends_same}
use Rattle.pm_conds.proofs.conditions.+ask.Goals as goal

pub returns-in_err-rest : goal.returns-in_err-rest
returns-in_err-rest g t c = record { carries = (search rules, on_err _ _ (out_anywhere _ _ _ _ refl)) }

pub returns-then-not-starts_with : goal.returns-then-not-starts_with
returns-then-not-starts_with g t c = record {
  carries = (
      let p = mind_of c.args.run.now.process in
      let asking = asking_of c.args.text.now c.args.question in
      let rest = c.in_ok-rest.rest.now in
      let question = c.read_lead.new.question in
      let front = asking_of rest question in
      carried _ (comes_within c.args.left c.args.flags asking p) _ _ _ _ _ _ (tested_front c.args.left c.args.flags asking front p c.in_ok-rest.ensures (sym c.starts_with.ensures.value ∙ c.if-not-starts_with.true)) c.ask_rest.ensures.carries);
}

pub returns-then-left-eq0 : goal.returns-then-left-eq0
returns-then-left-eq0 g t c = record {
  carries = (
      let p = mind_of c.args.run.now.process in
      let asking = asking_of c.args.text.now c.args.question in
      let rest = c.in_ok-rest.rest.now in
      let question = c.read_lead.new.question in
      let front = asking_of rest question in
      let none : c.args.left ≡ 0 = search rules in
      (stopped_at c.args.left c.args.flags asking front p _ _ none c.in_ok-rest.ensures (sym c.starts_with.ensures.value ∙ c.if-not-starts_with.false), tt));
}

pub returns-in_err-outputs : goal.returns-in_err-outputs
returns-in_err-outputs g t c = record {
  carries = (
      let p = mind_of c.args.run.now.process in
      let asking = asking_of c.args.text.now c.args.question in
      let rest = c.in_ok-rest.rest.now in
      let question = c.read_lead.new.question in
      let front = asking_of rest question in
      let some : 0 < c.args.left = omega arith in
      let same = expanded_front c.args.left c.args.flags asking front p some c.in_ok-rest.ensures (sym c.starts_with.ensures.value ∙ c.if-not-starts_with.false) in
      let text = drop 1 rest in
      let again : Asking → Mind → Plan Come = λ next q. comes_within (c.args.left - 1) c.args.flags next q in
      (search rules, on_err _ _ (out_same _ (comes_within c.args.left c.args.flags asking p) _ _ _ _ same (out_front (outputs_of (commands_in Quoted text) p) (after_commands text question again) _ _ _ _ (rw (take_rest rest 1) at c.in_err-outputs.ensures.carries.1)))));
}

pub returns-in_err-length : goal.returns-in_err-length
returns-in_err-length g t c = record {
  carries = (
      let p = mind_of c.args.run.now.process in
      let asking = asking_of c.args.text.now c.args.question in
      let rest = c.in_ok-rest.rest.now in
      let question = c.read_lead.new.question in
      let front = asking_of rest question in
      let some : 0 < c.args.left = omega arith in
      let same = expanded_front c.args.left c.args.flags asking front p some c.in_ok-rest.ensures (sym c.starts_with.ensures.value ∙ c.if-not-starts_with.false) in
      let text = drop 1 rest in
      let again : Asking → Mind → Plan Come = λ next q. comes_within (c.args.left - 1) c.args.flags next q in
      let ran = outputs_with c.in_ok-outputs.outputs.items (mind_of c.outputs_of.new.run.process) in
      (search rules, on_err _ _ (out_same _ (comes_within c.args.left c.args.flags asking p) _ _ _ _ same (out_then (outputs_of (commands_in Quoted text) p) (after_commands text question again) ran _ _ _ _ _ _ (rw (take_rest rest 1) at c.in_ok-outputs.ensures.carries.0) (out_anywhere _ _ _ _ refl)))));
}

pub returns-in-TooLong : goal.returns-in-TooLong
returns-in-TooLong g t c = record {
  carries = (
      let p = mind_of c.args.run.now.process in
      let asking = asking_of c.args.text.now c.args.question in
      let rest = c.in_ok-rest.rest.now in
      let question = c.read_lead.new.question in
      let front = asking_of rest question in
      let some : 0 < c.args.left = omega arith in
      let same = expanded_front c.args.left c.args.flags asking front p some c.in_ok-rest.ensures (sym c.starts_with.ensures.value ∙ c.if-not-starts_with.false) in
      let text = drop 1 rest in
      let again : Asking → Mind → Plan Come = λ next q. comes_within (c.args.left - 1) c.args.flags next q in
      let q = mind_of c.outputs_of.new.run.process in
      let outputs = c.in_ok-outputs.outputs.items in
      let long = rw (c.in-TooLong.is, take_rest rest 1, c.as_slice.ensures.value) at c.in_ok-length.ensures in
      (ends_same _ (comes_within c.args.left c.args.flags asking p) _ _ _ _ _ same (long_after text c.in-TooLong.length outputs question p q again _ _ _ _ (rw (take_rest rest 1) at c.in_ok-outputs.ensures.carries.0) long.0 long.1), tt));
}

pub returns-in-Words : goal.returns-in-Words
returns-in-Words g t c = record {
  carries = (
      let p = mind_of c.args.run.now.process in
      let asking = asking_of c.args.text.now c.args.question in
      let rest = c.in_ok-rest.rest.now in
      let question = c.read_lead.new.question in
      let front = asking_of rest question in
      let some : 0 < c.args.left = omega arith in
      let same = expanded_front c.args.left c.args.flags asking front p some c.in_ok-rest.ensures (sym c.starts_with.ensures.value ∙ c.if-not-starts_with.false) in
      let text = drop 1 rest in
      let again : Asking → Mind → Plan Come = λ next q. comes_within (c.args.left - 1) c.args.flags next q in
      let q = mind_of c.outputs_of.new.run.process in
      let outputs = c.in_ok-outputs.outputs.items in
      let value = c.first_word-value.result in
      let fits = rw (c.in-Words.is, take_rest rest 1, c.as_slice.ensures.value) at c.in_ok-length.ensures in
      let shown = c.past_blanks-text.ensures.value ∙ ap after_blanks c.as_slice-in-Words.ensures in
      let reads = reads_again text c.past_blanks-text.result.now value outputs question q again fits.0 (c.first_word-value.ensures ∙ ap first_word fits.1) shown in
      carried _ (comes_within c.args.left c.args.flags asking p) _ _ _ _ _ _ same
      (then_carries (outputs_of (commands_in Quoted text) p) (after_commands text question again) (outputs_with outputs q) _ _ _ _ _ _ _ _ (rw (take_rest rest 1) at c.in_ok-outputs.ensures.carries.0)
      (carried _ (read_again text outputs question q again) _ _ _ _ _ _ reads c.ask.ensures.carries)));
}
