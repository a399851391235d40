use Rattle.std.proofs.Common.{◌≡◌, ◌++◌, drop}
use Rattle.explain_text.specs.Lines.{step_lines}
use Rattle.explain_text.proofs.result.push_steps.Given as goal

abbrev pub invariant-loop-step : goal.invariant-loop-step
invariant-loop-step l = l.text ++ step_lines (drop l.step-index l.steps) ≡ l.fn.text ++ step_lines l.steps
