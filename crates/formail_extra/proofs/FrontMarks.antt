-- Mails are marked by the front of a cache as by the whole.
use Rattle.std.proofs.Common.{◌≡◌, ◌≤◌, ◌<◌, ℕ, Bool, true, false, not, nat_le, Option, Some, None, List, [], ◌∷◌, ◌++◌, take, length, refl, sym, ap, ◌∙◌, subst, inl, inr, arith, le_refl, take_all, take-take, length-take, if◌then◌else◌}
use Rattle.std.proofs.lemmas.Bool.Decides.{nat_tests}
use Rattle.formail_extra.specs.Cache.{is_seen, left_of, addition_to, next_of, Marks, mark_before, marks_of}
use Rattle.formail_extra.specs.Laws.{SameMarks}

abbrev front : List ℕ → List ℕ
front bytes = take 2097152 bytes

pub seen_same : (bytes id : List ℕ) → is_seen (front bytes) id ≡ is_seen bytes id
seen_same bytes id = rw (take-take 2097152 2097152 bytes (le_refl 2097152)) refl

le_true : (a b : ℕ) → a ≤ b → nat_le a b ≡ true
le_true a b h = grind (arith, nat_tests)

le_false : (a b : ℕ) → b < a → nat_le a b ≡ false
le_false a b h = grind (arith, nat_tests)

-- a full cache is emptied
pub left_none : (most : ℕ) (bytes : List ℕ) → most ≤ length bytes → left_of most bytes ≡ []
left_none most bytes h = ap (λ b. if b then [] else bytes) (le_true most (length bytes) h)

-- and one that isn't full stays
pub left_all : (most : ℕ) (bytes : List ℕ) → length bytes < most → left_of most bytes ≡ bytes
left_all most bytes h = ap (λ b. if b then [] else bytes) (le_false most (length bytes) h)

-- the front of a cache that has fewer bytes than it may have is all of it
pub front_whole : (most : ℕ) (bytes : List ℕ) → most ≤ 2097152 → length (front bytes) < most → front bytes ≡ bytes
front_whole most bytes h few = take_all 2097152 bytes (omega (arith, length-take 2097152 bytes, few, h))

-- and one whose front is full is full
pub front_full : (most : ℕ) (bytes : List ℕ) → most ≤ length (front bytes) → most ≤ length bytes
front_full most bytes full = omega (arith, length-take 2097152 bytes, full)

left_same : (most : ℕ) (bytes : List ℕ) → most ≤ 2097152 → (b : Bool) → nat_le (length bytes) 2097152 ≡ b → left_of most (front bytes) ≡ left_of most bytes
left_same most bytes h true short = ap (left_of most) (take_all 2097152 bytes (grind (arith, nat_tests)))
left_same most bytes h false long =
    let more : 2097152 < length bytes = grind (arith, nat_tests) in
    let full : most ≤ length (front bytes) = omega (arith, length-take 2097152 bytes) in
    left_none most (front bytes) full ∙ sym (left_none most bytes (omega arith))

pub next_same : (most : ℕ) (bytes id : List ℕ) → most ≤ 2097152 → next_of most (front bytes) id ≡ next_of most bytes id
next_same most bytes id h = ap (λ l. l ++ addition_to l id) (left_same most bytes h (nat_le (length bytes) 2097152) refl)

-- the marks of some mails after one whose identifier was seen or wasn't
abbrev marks_then : Bool → ℕ → List ℕ → List ℕ → List (Option (List ℕ)) → Marks
marks_then seen most bytes id ids = mark_before (not seen) (marks_of most (if seen then bytes else next_of most bytes id) ids)

one_more : (seen : Bool) (most : ℕ) (bytes id : List ℕ) (ids : List (Option (List ℕ))) → most ≤ 2097152
    → SameMarks (front bytes) bytes (marks_of most (front bytes) ids) (marks_of most bytes ids)
    → SameMarks (front bytes) bytes (marks_then seen most (front bytes) id ids) (marks_then seen most bytes id ids)
one_more true most bytes id ids h others = record { kept = ap (λ l. false ∷ l) others.kept; cache = others.cache }
one_more false most bytes id ids h others =
    let same = next_same most bytes id h in
    record { kept = ap (λ c. true ∷ (marks_of most c ids).kept) same; cache = inl (ap (λ c. (marks_of most c ids).cache) same) }

pub same_marks : (most : ℕ) (bytes : List ℕ) (ids : List (Option (List ℕ))) → most ≤ 2097152
    → SameMarks (front bytes) bytes (marks_of most (front bytes) ids) (marks_of most bytes ids)
same_marks most bytes [] h = record { kept = refl; cache = inr (refl, refl) }
same_marks most bytes (None ∷ ids) h =
    let others = same_marks most bytes ids h in record { kept = ap (λ l. true ∷ l) others.kept; cache = others.cache }
same_marks most bytes (Some id ∷ ids) h =
    subst (λ b. SameMarks (front bytes) bytes (marks_then b most (front bytes) id ids) (marks_of most bytes (Some id ∷ ids))) (sym (seen_same bytes id))
    (one_more (is_seen bytes id) most bytes id ids h (same_marks most bytes ids h))
