use Rattle.std.proofs.Common.{◌≡◌, ℕ, ◌+◌, ◌<◌, ◌≤◌, false, Some, vec_len}
use Rattle.std.specs.Prelude.{slice_get}
use Rattle.pm_match.specs.Automaton.{Edge}
use Rattle.pm_match.specs.Labels.{Below, Crosses, IsClosed}
use Rattle.pm_match.specs.Lists.{Has}
use Rattle.pm_match.proofs.anywhere.cross.Given as goal

abbrev pub invariant-loop-index : goal.invariant-loop-index
invariant-loop-index l = record {
  low : l.fn.span.start ≤ l.index;
  sound : (r v : ℕ) → Below l.next.of.items r v → (q : ℕ) × Has l.states.items l.fn.span q × Crosses l.program.steps.items l.area l.place q r;
  reached : (k q r v : ℕ) → l.fn.span.start ≤ k → k < l.index → slice_get l.states.items k ≡ Some q →
      Edge l.program.steps.items l.area q l.place r (l.place + 1) → Below l.next.of.items r v;
  none : l.goes_on ≡ false → (k q r : ℕ) → l.fn.span.start ≤ k → k < l.index → slice_get l.states.items k ≡ Some q → q < l.program.entry →
      Edge l.program.steps.items l.area q l.place r (l.place + 1) → ⊥;
  len : vec_len l.next.of ≡ vec_len l.fn.next.of;
  closed : IsClosed l.program.steps.items l.area (l.place + 1) l.next.of.items;
}
