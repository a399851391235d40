use Rattle.std.proofs.Common.{ℕ, ◌-◌, ◌≤◌, Bool, None, length}
use Rattle.pm_regex.specs.Re.{Re}
use Rattle.pm_match.specs.Automata.{Fits}
use Rattle.pm_match.specs.Search.{IsProgram}
use Rattle.pm_regex.specs.Found.{IsMatch}
use Rattle.pm_match.specs.Finding.{IsBestBefore, IsArrived, LeftSeed, RightSeed}
use Rattle.pm_match.proofs.any_match.is_match_within.Given as goal

abbrev pub invariant-loop-place : goal.invariant-loop-place
invariant-loop-place l = record {
  room : Fits l.automata l.room;
  after : l.from ≤ l.base;
  ordered : l.base ≤ l.place;
  within : l.place ≤ length l.area;
  left_arrived : IsArrived l.automata.left.steps.items l.area l.automata.left.entry (LeftSeed l.automata.left.steps.items l.area l.automata.left.entry l.automata.left.exit l.base) l.place l.room.left.of.items;
  right_arrived : IsArrived l.automata.right.steps.items l.area l.automata.right.entry (RightSeed l.automata.left.steps.items l.area l.automata.left.entry l.automata.left.exit l.base) l.place l.room.right.of.items;
  best : (fold : Bool) (x y : Re) → IsProgram l.automata.left x fold → IsProgram l.automata.right y fold
      → IsBestBefore fold x y l.area l.base l.place None;
  none : (fold : Bool) (x y : Re) → IsProgram l.automata.left x fold → IsProgram l.automata.right y fold
      → (s c j : ℕ) → IsMatch fold x y l.area l.from s c j → l.base ≤ s;
}

abbrev pub decreases-loop-place : goal.decreases-loop-place
decreases-loop-place l = length l.area - l.place
