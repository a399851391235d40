-- The head is the shortest prefix whose last line is empty.
use Rattle.std.proofs.Common.{◌≡◌, ◌⊎◌, ℕ, zero, suc, ◌≤◌, Bool, true, false, List, [], ◌∷◌, ◌++◌, take, drop, refl, ap, inl, inr, ⊎_elim, arith, codes, take-append-drop, length-take}
use Rattle.std.proofs.lemmas.Bool.{cases_eq, false≢true}
use Rattle.pm_message.specs.Split.{split_of, IsSplit}
use Rattle.pm_message.proofs.HeadLemmas.{head_len, head_len-first, head_len-break, head_len-on, head_rest-take, body_rest-drop}

-- the text ends with two newlines
abbrev EndsTwice : List ℕ → Type 0
EndsTwice text = (before : List ℕ) × (text ≡ before ++ codes "\n\n")

-- the last line is empty, where the text begins at a line's beginning or within a line
abbrev EndsAt : Bool → List ℕ → Type 0
EndsAt fresh text = ((fresh ≡ true) × (text ≡ codes "\n")) ⊎ EndsTwice text

not_twice : (before : List ℕ) → [] ≡ before ++ codes "\n\n" → ⊥
not_twice [] e = cc
not_twice (x ∷ xs) e = cc

not_empty : (fresh : Bool) → EndsAt fresh [] → ⊥
not_empty fresh e = ⊎_elim (λ w. (let h : [] ≡ 10 ∷ [] = w.1 in cc)) (λ w. not_twice w.0 w.1) e

twice_after : (b : ℕ) (t before : List ℕ) → b ∷ t ≡ before ++ codes "\n\n" → ((b ≡ 10) × (t ≡ codes "\n")) ⊎ EndsTwice t
twice_after b t [] e = inl (cc, cc)
twice_after b t (x ∷ xs) e = inr (xs, cc)

-- what an ending says of the bytes after the first
behind : (fresh : Bool) (b : ℕ) (t : List ℕ) → EndsAt fresh (b ∷ t) → ((fresh ≡ true) × (b ≡ 10)) ⊎ (((b ≡ 10) × (t ≡ codes "\n")) ⊎ EndsTwice t)
behind fresh b t e = ⊎_elim (λ w. inl (w.0, (let h : b ∷ t ≡ 10 ∷ [] = w.1 in cc))) (λ w. inr (twice_after b t w.0 w.1)) e

after_break : (b : ℕ) (t : List ℕ) → EndsAt false (b ∷ t) → EndsAt true t
after_break b t e = ⊎_elim (λ w. absurd (false≢true w.0)) (λ w. ⊎_elim (λ v. inl (refl, v.1)) inr w) (behind false b t e)

after_other : (fresh : Bool) (b : ℕ) (t : List ℕ) → (b ≡ 10 → ⊥) → EndsAt fresh (b ∷ t) → EndsAt false t
after_other fresh b t ne e = ⊎_elim (λ w. absurd (ne w.1)) (λ w. ⊎_elim (λ v. absurd (ne v.0)) inr w) (behind fresh b t e)

pub shortest : (fresh : Bool) (bs : List ℕ) (n : ℕ) → EndsAt fresh (take n bs) → head_len fresh bs ≤ n
shortest true [] n e = omega arith
shortest false [] n e = omega arith
shortest fresh (b ∷ bs) zero e = absurd (not_empty fresh e)
shortest true (b ∷ bs) (suc n) e = ⊎_elim
    (λ is. omega (arith, head_len-first b bs is))
    (λ ne. (let h = shortest false bs n (after_other true b (take n bs) ne e) in omega (arith, head_len-on true b bs ne, h)))
    (cases_eq b 10)
shortest false (b ∷ bs) (suc n) e = ⊎_elim
    (λ is. (let h = shortest true bs n (after_break b (take n bs) e) in omega (arith, head_len-break b bs is, h)))
    (λ ne. (let h = shortest false bs n (after_other false b (take n bs) ne e) in omega (arith, head_len-on false b bs ne, h)))
    (cases_eq b 10)

-- one byte more in front
in_front : (fresh : Bool) (b : ℕ) (t d : List ℕ) → EndsAt false t ⊎ (d ≡ []) → EndsAt fresh (b ∷ t) ⊎ (d ≡ [])
in_front fresh b t d e = ⊎_elim
    (λ w. ⊎_elim (λ v. absurd (false≢true v.0)) (λ v. inl (inr (b ∷ v.0, ap (λ s. b ∷ s) v.1))) w)
    inr
    e

newline_in_front : (b : ℕ) (t d : List ℕ) → b ≡ 10 → EndsAt true t ⊎ (d ≡ []) → EndsAt false (b ∷ t) ⊎ (d ≡ [])
newline_in_front b t d is e = ⊎_elim
    (λ w. ⊎_elim (λ v. inl (inr ([], (let h : t ≡ 10 ∷ [] = v.1 in cc)))) (λ v. inl (inr (b ∷ v.0, ap (λ s. b ∷ s) v.1))) w)
    inr
    e

pub ends : (fresh : Bool) (bs : List ℕ) → EndsAt fresh (take (head_len fresh bs) bs) ⊎ (drop (head_len fresh bs) bs ≡ [])
ends true [] = inr refl
ends false [] = inr refl
ends true (b ∷ bs) = ⊎_elim
    (λ is. rw (head_len-first b bs is) (inl (inl (refl, ap (λ x. x ∷ []) is))))
    (λ ne. rw (head_len-on true b bs ne) (in_front true b _ _ (ends false bs)))
    (cases_eq b 10)
ends false (b ∷ bs) = ⊎_elim
    (λ is. rw (head_len-break b bs is) (newline_in_front b _ _ is (ends true bs)))
    (λ ne. rw (head_len-on false b bs ne) (in_front false b _ _ (ends false bs)))
    (cases_eq b 10)

-- the lines up to the first empty one are the shortest prefix that ends with an empty line
pub split_of-is_split : (bytes : List ℕ) → IsSplit bytes (split_of bytes)
split_of-is_split bytes = record {
  whole = rw (head_rest-take true bytes, body_rest-drop true bytes) (take-append-drop (head_len true bytes) bytes);
  shortest = λ n e. (let h = shortest true bytes n (⊎_elim (λ one. inl (refl, one)) inr e) in rw (head_rest-take true bytes) (omega (arith, length-take (head_len true bytes) bytes, h)));
  ends = rw (head_rest-take true bytes, body_rest-drop true bytes) (⊎_elim (λ w. inl (⊎_elim (λ v. inl v.1) inr w)) inr (ends true bytes));
}
