use Rattle.std.proofs.Common.{◌≡◌, ◌+◌, drop, false}
use Rattle.pm_recipe.specs.Places.{reach_of, rest_of}
use Rattle.pm_recipe.proofs.places.reach.Given as goal

abbrev pub invariant-loop-i : goal.invariant-loop-i
invariant-loop-i g l = record {
  length : reach_of g.P.Place.places false l.fn.place l.text ≡ l.i + reach_of g.P.Place.places l.joined l.here (drop l.i l.text);
  place : rest_of g.P.Place.places false l.fn.place l.text ≡ rest_of g.P.Place.places l.joined l.here (drop l.i l.text);
}
