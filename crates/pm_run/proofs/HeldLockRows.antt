-- Which locks are right in some short cases.
use Rattle.std.proofs.Common.{◌≡◌, ℕ, Bool, true, false, List, [], ◌∷◌, bytes_eq, refl, ap}
use Rattle.pm_run.specs.HeldLockExamples.{OfHeldLocks, inner_lock}

-- the first of these names is that of the inner block's lock
abbrev begins_with_inner : List (List ℕ) → Bool
begins_with_inner [] = false
begins_with_inner (name ∷ names) = bytes_eq name inner_lock

pub of_held_locks : OfHeldLocks
of_held_locks = record {
  nested = λ p. record { others = refl; held = refl; once = refl };
  without_global = λ p. record { others = refl; held = refl; once = refl };
  leaving_one = λ p. record { others = refl; held = refl; once = refl };
  of_no_block = λ p h. let e : false ≡ true = ap begins_with_inner h.others in cc;
  one_lost = λ p h. let e : false ≡ true = ap begins_with_inner h.others in cc;
  turned_round = λ p h. let e : false ≡ true = ap begins_with_inner h.others in cc;
  global_lost = λ p h. let e : false ≡ true = h.held in cc;
  twice = λ p h. let e : false ≡ true = h.once in cc;
  over = λ p. record { others = refl; held = refl; once = refl };
  over_without = λ p. record { others = refl; held = refl; once = refl };
  over_more = λ p h. let e : true ≡ false = ap begins_with_inner h.others in cc;
  over_other = λ p h. let e : false ≡ true = h.held in cc;
}
