use Rattle.std.proofs.Common.{rules, refl}
use Rattle.pm_journal.proofs.ActPlans.{executes_then}
use Rattle.pm_journal.proofs.WantsMemory.{on_err, out_front, out_then, executes_nothing}
use Rattle.pm_meaning.specs.Minds.{mind_of}
use Rattle.pm_meaning.specs.Outputs.{outputs_with, outputs_of}
use Rattle.pm_meaning.proofs.OutputLemmas.{after_lock, after_texts}
use Rattle.pm_meaning.proofs.outputs.make_ready.Goals as goal

pub returns-in_err-lock_outputs-clause-carries : goal.returns-in_err-lock_outputs-clause-carries
returns-in_err-lock_outputs-clause-carries g c =
    let p = mind_of c.args.run.now.process in
    (search rules, on_err _ _ (out_front (outputs_of c.args.lock_commands.now p) (after_lock c.args.commands.now) _ _ _ _ c.in_err-lock_outputs.ensures.carries.1))

pub returns-in_err-outputs-clause-carries : goal.returns-in_err-outputs-clause-carries
returns-in_err-outputs-clause-carries g c =
    let p = mind_of c.args.run.now.process in
    let first = outputs_with c.in_ok-lock_outputs.lock_outputs.items (mind_of c.run_each.new.run.process) in (
      search rules,
      on_err _ _ (out_then (outputs_of c.args.lock_commands.now p) (after_lock c.args.commands.now) first _ _ _ _ _ _ c.in_ok-lock_outputs.ensures.carries.0
          (out_front (outputs_of c.args.commands.now first.mind) (after_texts first) _ _ _ _ c.in_err-outputs.ensures.carries.1)),
    )

pub returns-clause-carries : goal.returns-clause-carries
returns-clause-carries g c =
    let p = mind_of c.args.run.now.process in
    let first = outputs_with c.in_ok-lock_outputs.lock_outputs.items (mind_of c.run_each.new.run.process) in
    let second = outputs_with c.in_ok-outputs.outputs.items (mind_of c.run_each-2.new.run.process) in (
      executes_then (outputs_of c.args.lock_commands.now p) (after_lock c.args.commands.now) first _ _ _ _ _ _ _ c.in_ok-lock_outputs.ensures.carries.0
          (executes_then (outputs_of c.args.commands.now first.mind) (after_texts first) second _ _ _ _ _ _ _ c.in_ok-outputs.ensures.carries.0 (executes_nothing _ _ _ _ refl)),
      tt,
    )
