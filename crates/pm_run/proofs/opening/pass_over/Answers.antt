use Rattle.std.proofs.Common.{sym, ◌∙◌}
use Rattle.pm_journal.proofs.WantsMemory.{on_err}
use Rattle.pm_meaning.specs.Minds.{mind_of}
use Rattle.pm_run.specs.Ends.{rule_of_opening}
use Rattle.pm_run.proofs.OpeningLemmas.{passes_filter, passes_own, passes_told, passes_out, passing_wants_first}
use Rattle.pm_run.proofs.opening.pass_over.Goals as goal

pub returns-then-run-clause-passes : goal.returns-then-run-clause-passes
returns-then-run-clause-passes g c =
    passes_filter (rule_of_opening c.args.rule) c.args.name.now c.args.missing (mind_of c.args.run.now.process) _ _ c.if-run.true

pub returns-then-may_miss-clause-passes : goal.returns-then-may_miss-clause-passes
returns-then-may_miss-clause-passes g c =
    passes_own (rule_of_opening c.args.rule) c.args.name.now c.args.missing (mind_of c.args.run.now.process) _ _ c.if-run.false (sym c.may_miss.ensures ∙ c.if-may_miss.true)

pub returns-in_err-line-clause-memory : goal.returns-in_err-line-clause-memory
returns-in_err-line-clause-memory g c =
    on_err _ _ (passing_wants_first (rule_of_opening c.args.rule) c.args.name.now c.args.missing (mind_of c.args.run.now.process) _ _)

pub returns-in_err-tell-clause-memory : goal.returns-in_err-tell-clause-memory
returns-in_err-tell-clause-memory g c =
    on_err _ _ (passes_out (rule_of_opening c.args.rule) c.args.name.now c.in_ok-line.line c.args.missing (mind_of c.args.run.now.process) _ _ _ _ c.if-run.false (sym c.may_miss.ensures ∙ c.if-may_miss.false) c.in_ok-line.ensures c.in_err-tell.ensures.carries.1)

pub returns-clause-passes : goal.returns-clause-passes
returns-clause-passes g c =
    passes_told (rule_of_opening c.args.rule) c.args.name.now c.in_ok-line.line c.args.missing (mind_of c.args.run.now.process) _ _ _ _ c.if-run.false (sym c.may_miss.ensures ∙ c.if-may_miss.false) c.in_ok-line.ensures c.in_ok-tell.ensures.carries.0
