use Rattle.std.proofs.Common.{◌≡◌, ◌++◌, drop}
use Rattle.explain_text.specs.Steps.{steps_of}
use Rattle.explain_text.proofs.step.steps_of.Given as goal

abbrev pub invariant-loop-entry : goal.invariant-loop-entry
invariant-loop-entry l = l.steps.items ++ steps_of (drop l.entry-index l.entries) ≡ steps_of l.entries
