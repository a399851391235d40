use Rattle.pm_journal.proofs.WantsMemory.{on_err}
use Rattle.pm_meaning.specs.Minds.{mind_of}
use Rattle.pm_meaning.proofs.Choices.{ok_map, err_map}
use Rattle.pm_run.specs.Ends.{rule_of_opening}
use Rattle.pm_run.proofs.OpeningLemmas.{is_many, many_told, many_out, opens_by, opens_out, opening_wants_first}
use Rattle.pm_run.proofs.opening.open_one.Goals as goal

pub returns-in_err-line-clause-memory : goal.returns-in_err-line-clause-memory
returns-in_err-line-clause-memory g c =
    on_err _ _ (opening_wants_first (rule_of_opening c.args.rule) c.args.name (mind_of c.args.run.now.process) _ _)

pub returns-in_err-tell-clause-memory : goal.returns-in_err-tell-clause-memory
returns-in_err-tell-clause-memory g c =
    on_err _ _ (many_out (rule_of_opening c.args.rule) c.args.name c.in_ok-line.line (mind_of c.args.run.now.process) _ _ _ _ (is_many c.args.run.now.process.openings c.if-run-ge256.true) c.in_ok-line.ensures c.in_err-tell.ensures.carries.1)

pub returns-then-run-ge256-clause-opens : goal.returns-then-run-ge256-clause-opens
returns-then-run-ge256-clause-opens g c =
    rw c.tell.ensures.same (many_told (rule_of_opening c.args.rule) c.args.name c.in_ok-line.line (mind_of c.args.run.now.process) _ _ _ _ (is_many c.args.run.now.process.openings c.if-run-ge256.true) c.in_ok-line.ensures c.in_ok-tell.ensures.carries.0)

pub returns-clause-opens : goal.returns-clause-opens
returns-clause-opens g c =
    ok_map c.read_one.result _ _ (λ tried h. opens_by (rule_of_opening c.args.rule) c.args.name tried (mind_of c.args.run.now.process) (mind_of c.read_one.new.run.process) _ _ _ _ c.if-run-ge256.false h) c.read_one.ensures.reads

pub returns-clause-memory : goal.returns-clause-memory
returns-clause-memory g c =
    err_map c.read_one.result _ _ (λ h. opens_out (rule_of_opening c.args.rule) c.args.name (mind_of c.args.run.now.process) _ _ _ _ c.if-run-ge256.false h) c.read_one.ensures.memory
