use Rattle.std.proofs.Common.{◌≡◌, ◌++◌, drop, flat_map}
use Rattle.explain_mails.specs.Objects.{step_tokens}
use Rattle.explain_mails.proofs.runs.put_steps.Given as goal

abbrev pub invariant-loop-step : goal.invariant-loop-step
invariant-loop-step l = (l.writer.before ≡ l.fn.writer.before)
    × (l.writer.tokens ++ flat_map step_tokens (drop l.step-index l.steps) ≡ l.fn.writer.tokens ++ flat_map step_tokens l.steps)
