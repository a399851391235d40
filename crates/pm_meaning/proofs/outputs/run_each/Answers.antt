use Rattle.std.proofs.Common.{◌≡◌, ◌+◌, [], ◌∷◌, rules, length, drop, ap, ◌∙◌}
use Rattle.std.proofs.lemmas.List.{at_drop_all, length-append}
use Rattle.pm_journal.proofs.WantsMemory.{on_err}
use Rattle.pm_meaning.specs.Minds.{mind_of}
use Rattle.pm_meaning.proofs.OutputLemmas.{command_pushed, command_wants, commands_begin, command_left, commands_over}
use Rattle.pm_meaning.proofs.outputs.run_each.Goals as goal

pub loop-command-init : goal.loop-command-init
loop-command-init g c =
    record { leads = commands_begin c.args.commands.now (mind_of c.args.run.now.process) c.new-outputs.result.items _ _ c.new-outputs.ensures.items; each = ap length c.new-outputs.ensures.items }

pub returns-in_err-output-clause-carries : goal.returns-in_err-output-clause-carries
returns-in_err-output-clause-carries g c =
    let p = mind_of c.loop-command.run.process in (
      search rules,
      on_err _ _ (command_wants _ c.args.commands.now c.loop-command.command-index _ c.command-item.result c.as_slice.result.now p c.loop-command.outputs.items
          (c.command-item.is, c.loop-command-test.true, c.as_slice.ensures) _ _ _ _ _ _ c.loop-command.invariant.leads c.in_err-output.ensures.carries.1),
    )

pub returns-in_err-push-clause-carries : goal.returns-in_err-push-clause-carries
returns-in_err-push-clause-carries g c =
    let p = mind_of c.loop-command.run.process in (
      search rules,
      on_err _ _ (command_left _ c.args.commands.now c.loop-command.command-index _ c.command-item.result c.as_slice.result.now p c.loop-command.outputs.items
          (c.command-item.is, c.loop-command-test.true, c.as_slice.ensures) c.in_ok-output.output (mind_of c.run_text.new.run.process) _ _ _ _ _ _ c.loop-command.invariant.leads c.in_ok-output.ensures.carries.0),
    )

pub loop-command-preserved : goal.loop-command-preserved
loop-command-preserved g c =
    let p = mind_of c.loop-command.run.process in
    let more : length c.push.new.self.items ≡ length c.loop-command.outputs.items + 1 = ap length c.in_ok-push.ensures.items ∙ length-append c.loop-command.outputs.items (c.in_ok-output.output ∷ []) in
    record {
      leads = command_pushed _ c.args.commands.now c.loop-command.command-index _ c.command-item.result c.as_slice.result.now p c.loop-command.outputs.items
          (c.command-item.is, c.loop-command-test.true, c.as_slice.ensures) c.in_ok-output.output (mind_of c.run_text.new.run.process) c.push.new.self.items _ _ _ _ _ _ c.loop-command.invariant.leads c.in_ok-output.ensures.carries.0 c.in_ok-push.ensures.items;
      each = more ∙ ap (λ n. n + 1) c.loop-command.invariant.each;
    }

pub returns-clause-carries : goal.returns-clause-carries
returns-clause-carries g c =
    let p = mind_of c.loop-command.run.process in
    let over : drop c.loop-command.command-index c.args.commands.now ≡ [] = at_drop_all (λ l. l) c.args.commands.now c.loop-command.command-index c.loop-command-test.false in
    (commands_over _ c.args.commands.now (drop c.loop-command.command-index c.args.commands.now) p c.loop-command.outputs.items _ _ _ _ over c.loop-command.invariant.leads, tt)
