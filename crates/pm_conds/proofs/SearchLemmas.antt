-- What is read and found is what the definitions say.
use Rattle.std.proofs.Common.{◌≡◌, ◌⊎◌, inl, inr, ℕ, ◌≤◌, Bool, true, false, not, List, length, Option, Some, None, refl, sym, ap, subst, IfSome}
use Rattle.std.specs.Prelude.{IsTrue, IsFalse, is_some}
use Rattle.pm_regex.specs.Re.{Re, Whole}
use Rattle.pm_regex.specs.Reading.{Reads, HasNoReading}
use Rattle.pm_regex.proofs.ReadLemmas.{one_reading_of}
use Rattle.pm_regex.proofs.ReadOrNot.{read_or_not}
use Rattle.pm_regex.specs.declared.found.Found.{Found}
use Rattle.pm_regex.specs.Found.{IsFound, IsFoundOf}
use Rattle.pm_regex.proofs.MatchOrNot.{at_after}
use Rattle.pm_regex.proofs.FoundOrNot.{found_of, one_found}
use Rattle.pm_meaning.specs.Searching.{expression_from, expression_of, found_outcome, holds_if, IsWithin}

from_reading : (text : List ℕ) (e : Whole) → Reads text e → (d : ((f : Whole) × Reads text f) ⊎ HasNoReading text) → expression_from d ≡ Some e
from_reading text e r (inl h) = ap (λ w. Some w) (one_reading_of text h.0 e h.1 r)
from_reading text e r (inr lacks) = absurd (lacks e r)

-- the text is read as this expression
pub reading_is : (text : List ℕ) (e : Whole) → Reads text e → expression_of text ≡ Some e
reading_is text e r = from_reading text e r (read_or_not text)

from_none : (text : List ℕ) → HasNoReading text → (d : ((f : Whole) × Reads text f) ⊎ HasNoReading text) → expression_from d ≡ None
from_none text lacks (inl h) = absurd (lacks h.0 h.1)
from_none text lacks (inr _) = refl

-- the text is read as none
pub no_reading : (text : List ℕ) → HasNoReading text → expression_of text ≡ None
no_reading text lacks = from_none text lacks (read_or_not text)

-- what was found is what is found
pub found_is : (fold : Bool) (e : Whole) (area : List ℕ) (f : Option Found) → IsFound fold e area f → f ≡ (found_of fold e area).0
found_is fold e area f is = one_found fold e area f (found_of fold e area).0 is (found_of fold e area).1

found_within_of : (fold : Bool) (l : Option Re) (r : Re) (area : List ℕ) (f : Option Found) → IsFoundOf fold l r area f → IfSome f (IsWithin area)
found_within_of fold l r area None is = tt
found_within_of fold None r area (Some f) is = subst (λ o. IfSome o (λ cut. (cut ≤ f.end) × (f.end ≤ length area))) (sym is.0) tt
found_within_of fold (Some l) r area (Some f) is =
    let order = at_after fold area r is.0 f.end (is.2).right in
    subst (λ o. IfSome o (λ cut. (cut ≤ f.end) × (f.end ≤ length area))) (sym is.1) (order, (is.2).end_in)

-- a cut stands before the end, which is in the area
pub found_within : (fold : Bool) (e : Whole) (area : List ℕ) (f : Option Found) → IsFound fold e area f → IfSome f (IsWithin area)
found_within fold e area f is = found_within_of fold e.left e.right area f is

some_if : (fold : Bool) (e : Whole) (area : List ℕ) (b : Bool) (x : Option Found) → IsFound fold e area x → (IsTrue b → IsFound fold e area None → ⊥) → (IsFalse b → IsFound fold e area None) → b ≡ is_some x
some_if fold e area true None is some none = absurd (some refl is)
some_if fold e area true (Some f) is some none = refl
some_if fold e area false None is some none = refl
some_if fold e area false (Some f) is some none = (let same : Some f ≡ None = one_found fold e area (Some f) None is (none refl) in absurd cc)

-- whether there is a match is whether something is found
pub is_match_is : (fold : Bool) (e : Whole) (area : List ℕ) (b : Bool) → (IsTrue b → IsFound fold e area None → ⊥) → (IsFalse b → IsFound fold e area None) → b ≡ is_some (found_of fold e area).0
is_match_is fold e area b some none = some_if fold e area b (found_of fold e area).0 (found_of fold e area).1 some none

-- what comes of an inverted condition
pub inverted_outcome : (area : List ℕ) (x : Option Found) → holds_if (not (is_some x)) ≡ found_outcome true area x
inverted_outcome area None = refl
inverted_outcome area (Some f) = refl

plain_outcome_of : (fold : Bool) (l : Option Re) (r : Re) (area : List ℕ) (x : Option Found) → is_some l ≡ false → IsFoundOf fold l r area x → holds_if (is_some x) ≡ found_outcome false area x
plain_outcome_of fold l r area None whole is = refl
plain_outcome_of fold None r area (Some f) whole is = rw is.0 refl
plain_outcome_of fold (Some l) r area (Some f) whole is = absurd cc

-- what comes of an expression without a cut
pub plain_outcome : (fold : Bool) (e : Whole) (area : List ℕ) → is_some e.left ≡ false → holds_if (is_some (found_of fold e area).0) ≡ found_outcome false area (found_of fold e area).0
plain_outcome fold e area whole = plain_outcome_of fold e.left e.right area (found_of fold e area).0 whole (found_of fold e area).1
