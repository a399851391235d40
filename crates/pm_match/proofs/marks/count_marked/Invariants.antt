use Rattle.std.proofs.Common.{◌≡◌, ◌+◌, ◌-◌, ◌*◌, ◌<◌, ◌≤◌, Bool, length}
use Rattle.pm_regex.specs.Re.{Re}
use Rattle.pm_match.specs.Search.{IsProgram}
use Rattle.pm_match.specs.Checkpoints.{AreCheckpoints, HasRoom, CountsTo}
use Rattle.pm_match.proofs.marks.count_marked.Given as goal

abbrev pub decreases-loop-index : goal.decreases-loop-index
decreases-loop-index l = length l.area - l.index * 65536

abbrev pub invariant-loop-index : goal.invariant-loop-index
invariant-loop-index l = record {
  room : HasRoom l.program.steps.items l.program.entry l.program.exit l.marks;
  kept : AreCheckpoints l.program.steps.items l.area l.program.exit 1 l.marks.checkpoints.items;
  few : l.at.count ≤ l.at.place;
  within : l.at.place ≤ length l.area;
  reach : l.marks.reach ≡ l.initial.marks.reach;
  many : l.index * 65536 < length l.area + 65536;
  after : l.index * 65536 < length l.area → l.index * 65536 ≤ l.at.place;
  done : length l.area ≤ l.index * 65536 → length l.area ≤ l.at.place;
  counted : (e : Re) (fold : Bool) → IsProgram l.program e fold → CountsTo fold e l.area 0 l.fn.from.count l.fn.from.place → CountsTo fold e l.area 0 l.at.count l.at.place;
}
