use Rattle.std.proofs.Common.{◌≡◌, ◌≤◌, take}
use Rattle.pm_recipe.specs.Joins.{before_blanks}
use Rattle.pm_recipe.proofs.joins.without_last_blanks.Given as goal

abbrev pub invariant-loop-i : goal.invariant-loop-i
invariant-loop-i l = record {
  within : l.end ≤ l.i;
  kept : before_blanks (take l.i l.text) ≡ take l.end l.text;
}
