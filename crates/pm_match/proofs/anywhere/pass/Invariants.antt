use Rattle.std.proofs.Common.{ℕ, ◌-◌, ◌<◌, ◌≤◌, length}
use Rattle.pm_match.specs.declared.build.Program.{Program}
use Rattle.pm_match.specs.Finding.{Reach}
use Rattle.pm_match.specs.Forward.{IsReachedFrom}
use Rattle.pm_match.specs.Anywhere.{Embeds}
use Rattle.pm_match.specs.Lists.{AreReady, IsAt}
use Rattle.pm_match.proofs.anywhere.pass.Given as goal

abbrev pub decreases-loop-place : goal.decreases-loop-place
decreases-loop-place l = length l.area - l.place

abbrev pub invariant-loop-place : goal.invariant-loop-place
invariant-loop-place l = record {
  within : l.place ≤ length l.area;
  low : l.base ≤ l.place;
  ready : AreReady l.program.steps.items l.program.entry l.program.exit l.sets l.next;
  at : IsAt l.program.steps.items l.area l.program.entry l.place l.sets.spans.items l.sets.states.items l.at;
  none : (j : ℕ) → j ≤ l.place → IsReachedFrom l.program.steps.items l.area l.program.entry 0 l.program.exit j → ⊥;
  base : (g : Program) → Embeds g l.program → (s n q j : ℕ) → s < l.base → l.base ≤ j → Reach l.program.steps.items l.area g.entry s n q j → ⊥;
}
