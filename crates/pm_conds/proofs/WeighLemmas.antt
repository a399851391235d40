-- Conditions with a weight are counted and judged.
use Rattle.std.proofs.Common.{◌≡◌, ℕ, Bool, true, false, List, Option, Some, None, refl, ap}
use Rattle.std.specs.Prelude.{is_some, max, if◌then◌else◌}
use Rattle.pm_regex.specs.declared.found.Found.{Found}
use Rattle.pm_regex.specs.Re.{Whole}
use Rattle.pm_regex.specs.Found.{IsCount}
use Rattle.pm_regex.proofs.CountOf.{count_of, one_count}
use Rattle.pm_meaning.specs.declared.question.Factors.{Factors}
use Rattle.pm_meaning.specs.declared.question.Outcome.TheVariants.{Counted, Defective}
use Rattle.pm_meaning.specs.Weighing.{counted_outcome, match_bytes, sought_outcome}

-- what was counted is how many there are
pub count_is : (fold : Bool) (e : Whole) (area : List ℕ) (n : ℕ) → IsCount fold e area n → n ≡ (count_of fold e area).0
count_is fold e area n is = one_count fold e area n (count_of fold e area).0 is (count_of fold e area).1

-- a text that is no expression is a defect, with a weight or without one
pub sought_none : (w : Option Factors) (inverted distinguish : Bool) (area : List ℕ) → Defective ≡ sought_outcome w inverted distinguish area None
sought_none None inverted distinguish area = refl
sought_none (Some w) inverted distinguish area = refl

-- where nothing is found, and where an inverted condition matches
pub none_counts : (w : Factors) (inverted : Bool) (area : List ℕ) (x : Option Found) (n : ℕ) → is_some x ≡ false → Counted w (if inverted then 1 else 0) None ≡ counted_outcome w inverted area x n
none_counts w inverted area None n none = refl
none_counts w inverted area (Some f) n none = absurd cc

pub inverted_counts : (w : Factors) (area : List ℕ) (x : Option Found) (n : ℕ) → is_some x ≡ true → Counted w 0 None ≡ counted_outcome w true area x n
inverted_counts w area None n some = absurd cc
inverted_counts w area (Some f) n some = refl

pub some_counts : (w : Factors) (area : List ℕ) (x : Option Found) (n : ℕ) (bytes : Option (List ℕ)) → is_some x ≡ true → ((f : Found) → x ≡ Some f → bytes ≡ match_bytes area f.cut f.end) →
    Counted w (max 1 n) bytes ≡ counted_outcome w false area x n
some_counts w area None n bytes some of = absurd cc
some_counts w area (Some f) n bytes some of = ap (λ b. Counted w (max 1 n) b) (of f refl)
