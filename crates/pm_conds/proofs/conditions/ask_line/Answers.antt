use Rattle.std.proofs.Common.{rules, sym, ap}
use Rattle.pm_journal.proofs.WantsMemory.{on_err, out_front}
use Rattle.pm_meaning.specs.declared.question.Outcome.TheVariants.{Defective, TooLong}
use Rattle.pm_meaning.specs.Judging.{by_line}
use Rattle.pm_meaning.specs.Minds.{mind_of}
use Rattle.pm_meaning.specs.Outputs.{read_line, read_with}
use Rattle.pm_meaning.proofs.Choices.{carried}
use Rattle.pm_meaning.proofs.Sequences.{then_carries}
use Rattle.pm_conds.proofs.ConditionLemmas.{after_line, line_known}
use Rattle.pm_conds.proofs.conditions.ask_line.Goals as goal

pub returns-in_err-command : goal.returns-in_err-command
returns-in_err-command g c = record {
  carries = (
      let p = mind_of c.args.run.now.process in
      let line = c.args.line.now in
      (search rules, on_err _ _ (out_front (read_line line p) (after_line line c.args.flags c.args.question.now) _ _ _ _ c.in_err-command.ensures.carries.1)));
}

pub returns-in-Runs : goal.returns-in-Runs
returns-in-Runs g c = record {
  carries = (
      let p = mind_of c.args.run.now.process in
      let q = mind_of c.read_line.new.run.process in
      let line = c.args.line.now in
      let same = ap (λ l. by_line l line c.args.flags c.args.question.now q) (sym c.in-Runs.is) in
      then_carries (read_line line p) (after_line line c.args.flags c.args.question.now) (read_with c.in_ok-command.field-0 q) _ _ _ _ _ _ _ _ c.in_ok-command.ensures.carries.0
      (carried _ (by_line c.in_ok-command.field-0 line c.args.flags c.args.question.now q) _ _ _ _ _ _ same c.ask_program.ensures.carries));
}

pub returns-in-NoWords : goal.returns-in-NoWords
returns-in-NoWords g c = record {
  carries = (
      let p = mind_of c.args.run.now.process in
      let q = mind_of c.read_line.new.run.process in
      let line = c.args.line.now in
      (line_known line c.args.flags c.args.question.now p q c.in_ok-command.field-0 Defective _ _ _ _ (ap (λ l. by_line l line c.args.flags c.args.question.now q) c.in-NoWords.is) c.in_ok-command.ensures.carries.0, tt));
}

pub returns-in-Unusable : goal.returns-in-Unusable
returns-in-Unusable g c = record {
  carries = (
      let p = mind_of c.args.run.now.process in
      let q = mind_of c.read_line.new.run.process in
      let line = c.args.line.now in
      (line_known line c.args.flags c.args.question.now p q c.in_ok-command.field-0 Defective _ _ _ _ (ap (λ l. by_line l line c.args.flags c.args.question.now q) c.in-Unusable.is) c.in_ok-command.ensures.carries.0, tt));
}

pub returns-in-TooLong : goal.returns-in-TooLong
returns-in-TooLong g c = record {
  carries = (
      let p = mind_of c.args.run.now.process in
      let q = mind_of c.read_line.new.run.process in
      let line = c.args.line.now in
      (line_known line c.args.flags c.args.question.now p q c.in_ok-command.field-0 (TooLong c.in-TooLong.length) _ _ _ _ (ap (λ l. by_line l line c.args.flags c.args.question.now q) c.in-TooLong.is) c.in_ok-command.ensures.carries.0, tt));
}
