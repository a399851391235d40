use Rattle.std.proofs.Common.{◌≡◌, ◌≤◌, drop}
use Rattle.pm_recipe.specs.Weights.{digits_value}
use Rattle.pm_recipe.proofs.conditions.sum_of_digits.Given as goal

abbrev pub invariant-loop-byte : goal.invariant-loop-byte
invariant-loop-byte l = record {
  bound : l.value ≤ l.most;
  value : digits_value 0 l.text ≡ digits_value l.value (drop l.byte-index l.text);
}
