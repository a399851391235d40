use Rattle.std.proofs.Common.{sym, ◌∙◌}
use Rattle.pm_meaning.specs.Assigning.{change_other}
use Rattle.pm_meaning.specs.Minds.{mind_of}
use Rattle.pm_meaning.specs.Turns.{GoesOn}
use Rattle.pm_meaning.proofs.Choices.{carried}
use Rattle.pm_run.proofs.AssignLemmas.{ended, logging, shifting, neither}
use Rattle.pm_run.proofs.assigning.change_other.Goals as goal

pub returns-then-is_log : goal.returns-then-is_log
returns-then-is_log g c = record {
  carries = (
      let p = mind_of c.args.run.now.process in
      carried _ (change_other c.args.name.now c.args.value.now p) _ _ _ _ _ _ (logging c.args.name.now c.args.value.now p (sym c.is_log.ensures ∙ c.if-is_log.true)) c.log_value.ensures.carries);
}

pub returns-then-is_shift : goal.returns-then-is_shift
returns-then-is_shift g c = record {
  carries = (
      let p = mind_of c.args.run.now.process in
      let q = mind_of c.shift_arguments.new.process in
      (ended (GoesOn q) _ _ _ (shifting c.args.name.now c.args.value.now p q (sym c.is_log.ensures ∙ c.if-is_log.false) (sym c.is_shift.ensures ∙ c.if-is_shift.true) c.shift_arguments.ensures.shifted), tt));
}

pub returns : goal.returns
returns g c = record {
  carries = (
      let p = mind_of c.args.run.now.process in
      carried _ (change_other c.args.name.now c.args.value.now p) _ _ _ _ _ _
      (neither c.args.name.now c.args.value.now p (sym c.is_log.ensures ∙ c.if-is_log.false) (sym c.is_shift.ensures ∙ c.if-is_shift.false)) c.change_rcfile.ensures.carries);
}
