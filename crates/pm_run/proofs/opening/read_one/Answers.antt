use Rattle.pm_journal.proofs.WantsMemory.{on_err}
use Rattle.pm_meaning.specs.Minds.{mind_of}
use Rattle.pm_meaning.proofs.Choices.{ok_map, err_map}
use Rattle.pm_run.specs.Ends.{rule_of_opening}
use Rattle.pm_run.proofs.OpeningLemmas.{reads_code, read_then_wants, reads_none, reads_none_out, reading_out, reading_wants_first}
use Rattle.pm_run.proofs.opening.read_one.Goals as goal

pub returns-in_err-noted-clause-memory : goal.returns-in_err-noted-clause-memory
returns-in_err-noted-clause-memory g c =
    on_err _ _ (reading_wants_first (rule_of_opening c.args.rule) c.args.name (mind_of c.args.run.now.process) _ _)

pub returns-in_err-rc-clause-memory : goal.returns-in_err-rc-clause-memory
returns-in_err-rc-clause-memory g c =
    on_err _ _ (reading_out (rule_of_opening c.args.rule) c.args.name c.in_ok-noted.noted (mind_of c.args.run.now.process) _ _ _ _ c.in_ok-noted.ensures c.in_err-rc.ensures.memory)

pub returns-in_err-code-in-Some-clause-memory : goal.returns-in_err-code-in-Some-clause-memory
returns-in_err-code-in-Some-clause-memory g c =
    on_err _ _ (read_then_wants (rule_of_opening c.args.rule) c.args.name c.in_ok-noted.noted _ (mind_of c.args.run.now.process) _ _ _ _ c.in_ok-noted.ensures c.in_ok-rc.ensures.ok)

pub returns-in_err-enter-in-Some-clause-memory : goal.returns-in_err-enter-in-Some-clause-memory
returns-in_err-enter-in-Some-clause-memory g c =
    on_err _ _ (read_then_wants (rule_of_opening c.args.rule) c.args.name c.in_ok-noted.noted _ (mind_of c.args.run.now.process) _ _ _ _ c.in_ok-noted.ensures c.in_ok-rc.ensures.ok)

pub returns-in-Some-clause-reads : goal.returns-in-Some-clause-reads
returns-in-Some-clause-reads g c =
    reads_code (rule_of_opening c.args.rule) c.args.name c.in_ok-noted.noted _ (mind_of c.args.run.now.process) _ _ _ _ c.in_ok-noted.ensures c.in_ok-rc.ensures.ok
    c.in-Some.rc c.as_slice.result.now c.in_ok-code-in-Some.code (mind_of c.enter.new.process) c.in-Some.is c.as_slice.ensures c.in_ok-code-in-Some.ensures (rw c.read.ensures.same at c.in_ok-enter-in-Some.ensures.ok)

pub returns-clause-reads : goal.returns-clause-reads
returns-clause-reads g c =
    rw (c.pass_over.ensures.same, c.read.ensures.same) (ok_map c.pass_over.result _ _ (λ tried h. reads_none (rule_of_opening c.args.rule) c.args.name c.in_ok-noted.noted _ (mind_of c.args.run.now.process) c.args.run.now.journal c.read.new.self.journal _ _ c.in_ok-noted.ensures c.in_ok-rc.ensures.ok
    c.last_missing-missing.result tried _ _ c.in-None.is c.last_missing-missing.ensures h) (rw c.read.ensures.same at c.pass_over.ensures.passes))

pub returns-clause-memory : goal.returns-clause-memory
returns-clause-memory g c =
    err_map c.pass_over.result _ _ (λ h. reads_none_out (rule_of_opening c.args.rule) c.args.name c.in_ok-noted.noted _ (mind_of c.args.run.now.process) c.args.run.now.journal c.read.new.self.journal _ _ c.in_ok-noted.ensures c.in_ok-rc.ensures.ok
    c.last_missing-missing.result _ _ c.in-None.is c.last_missing-missing.ensures h) (rw c.read.ensures.same at c.pass_over.ensures.memory)
