use Rattle.std.proofs.Common.{rules}
use Rattle.pm_journal.proofs.WantsMemory.{on_err, out_front}
use Rattle.pm_meaning.specs.Minds.{mind_of}
use Rattle.pm_meaning.specs.Outputs.{read_with, read_line}
use Rattle.pm_meaning.proofs.Sequences.{then_carries}
use Rattle.pm_run.proofs.EndLemmas.{by_read}
use Rattle.pm_run.proofs.ends.trap_line.Goals as goal

pub returns-in_err-line : goal.returns-in_err-line
returns-in_err-line g c = record {
  carries = (
      let p = mind_of c.args.run.now.process in
      let text = c.args.text.now in
      (search rules, on_err _ _ (out_front (read_line text p) (by_read text) _ _ _ _ c.in_err-line.ensures.carries.1)));
}

pub returns : goal.returns
returns g c = record {
  carries = (
      let p = mind_of c.args.run.now.process in
      let text = c.args.text.now in
      then_carries (read_line text p) (by_read text) (read_with c.in_ok-line.line (mind_of c.read_line.new.run.process)) _ _ _ _ _ _ _ _ c.in_ok-line.ensures.carries.0 c.trap_by.ensures.carries);
}
