use Rattle.std.proofs.Common.{◌≡◌, drop, option_copied}
use Rattle.explain_text.specs.Lines.{last_of, delivered_to}
use Rattle.explain_text.proofs.result.delivered_to.Given as goal

abbrev pub invariant-loop-step : goal.invariant-loop-step
invariant-loop-step l = last_of (drop l.step-index l.steps) (option_copied l.found) ≡ delivered_to l.steps
