use Rattle.std.proofs.Common.{◌≡◌, ◌≤◌, ◌+◌, length, drop}
use Rattle.pm_recipe.specs.Opens.{AreOpens, Knows}
use Rattle.pm_recipe.proofs.quotes.open_words.Given as goal

abbrev pub invariant-loop-at : goal.invariant-loop-at
invariant-loop-at l = record {
  within : l.at ≤ length l.text;
  here : AreOpens l.here (drop l.at l.text);
  count : l.at + length l.known.items ≡ length l.text + 1;
  knows : Knows l.known.items l.text;
}

abbrev pub decreases-loop-at : goal.decreases-loop-at
decreases-loop-at l = l.at
