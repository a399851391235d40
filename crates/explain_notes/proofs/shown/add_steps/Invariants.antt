use Rattle.std.proofs.Common.{◌≡◌, ◌++◌}
use Rattle.std.specs.Vec.Iter.{into_iter_items}
use Rattle.explain_notes.specs.Shown.{alone}
use Rattle.explain_notes.proofs.shown.add_steps.Given as goal

-- what is shown so far, and the steps that are left
abbrev pub invariant-loop-step : goal.invariant-loop-step
invariant-loop-step l = l.shown.items ++ alone (into_iter_items l.step-iterator) ≡ l.fn.shown.items ++ alone l.fn.steps.items
