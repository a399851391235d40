use Rattle.std.proofs.Common.{◌≡◌, drop}
use Rattle.pm_recipe.specs.Weights.{has_digit}
use Rattle.pm_recipe.proofs.conditions.has_digits.Given as goal

abbrev pub invariant-loop-byte : goal.invariant-loop-byte
invariant-loop-byte l = has_digit l.text ≡ has_digit (drop l.byte-index l.text)
