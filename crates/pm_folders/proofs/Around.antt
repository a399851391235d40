-- A text around its first slash.
use Rattle.std.proofs.Common.{◌≡◌, ◌<◌, ◌+◌, ℕ, suc, Bool, true, false, cond, List, [], ◌∷◌, ◌++◌, length, map, take, drop, refl, sym, ap, ◌∙◌, arith, ◌==◌, ◌||◌, not, Result, Ok, Err, OnOk, append_assoc}
use Rattle.std.specs.List.{position_or_len, before_first, after_first}
use Rattle.std.proofs.lemmas.List.{take-append-drop}
use Rattle.std.proofs.lemmas.List.Folds.{list_any-append}
use Rattle.pm_bytes.specs.Name.{has_zero}
use Rattle.pm_journal.specs.Naming.{unslashed}

abbrev pub is_slash : ℕ → Bool
is_slash b = b == 47

pub no_slash : (s : List ℕ) → position_or_len is_slash s ≡ length s → map unslashed s ≡ s
no_slash [] h = refl
no_slash (b ∷ bs) h =
    elim (is_slash b) as (λ t. cond (not t) (1 + position_or_len is_slash bs) 0 ≡ length (b ∷ bs) → cond t 95 b ∷ map unslashed bs ≡ b ∷ bs) [
      | true ↦ λ e. absurd (omega arith)
      | false ↦ λ e. ap (λ l. b ∷ l) (no_slash bs (omega arith))
    ] h

take_more : (p : ℕ) (b : ℕ) (bs : List ℕ) → take (1 + p) (b ∷ bs) ≡ b ∷ take p bs
take_more p b bs = let n : 1 + p ≡ suc p = omega arith in ap (λ k. take k (b ∷ bs)) n

drop_more : (p : ℕ) (b : ℕ) (bs : List ℕ) → drop (1 + p + 1) (b ∷ bs) ≡ drop (p + 1) bs
drop_more p b bs = let n : 1 + p + 1 ≡ suc (p + 1) = omega arith in ap (λ k. drop k (b ∷ bs)) n

pub at_slash : (s : List ℕ) → position_or_len is_slash s < length s → map unslashed s ≡ before_first is_slash s ++ 95 ∷ map unslashed (after_first is_slash s)
at_slash [] h = absurd (omega arith)
at_slash (b ∷ bs) h =
    let p = position_or_len is_slash bs in
    elim (is_slash b) as (λ t. cond (not t) (1 + p) 0 < length (b ∷ bs)
    → cond t 95 b ∷ map unslashed bs ≡ take (cond (not t) (1 + p) 0) (b ∷ bs) ++ 95 ∷ map unslashed (drop (cond (not t) (1 + p) 0 + 1) (b ∷ bs))) [
      | true ↦ λ e. refl
      | false ↦ λ e. ap (λ l. b ∷ l) (at_slash bs (omega arith))
          ∙ sym (ap (λ l. l ++ 95 ∷ map unslashed (drop (1 + p + 1) (b ∷ bs))) (take_more p b bs) ∙ ap (λ l. (b ∷ take p bs) ++ 95 ∷ map unslashed l) (drop_more p b bs))
    ] h

both_false : (a b : Bool) → (a || b) ≡ false → (a ≡ false) × (b ≡ false)
both_false true b h = absurd (cc)
both_false false b h = (refl, h)

parts : (k : ℕ) (s : List ℕ) → has_zero s ≡ false → (has_zero (take k s) ≡ false) × (has_zero (drop k s) ≡ false)
parts k s h = both_false (has_zero (take k s)) (has_zero (drop k s)) (sym (list_any-append (λ b. b == 0) (take k s) (drop k s)) ∙ ap has_zero (take-append-drop k s) ∙ h)

pub no_zero_before : (s : List ℕ) → has_zero s ≡ false → has_zero (before_first is_slash s) ≡ false
no_zero_before s h = (parts (position_or_len is_slash s) s h).0

pub no_zero_after : (s : List ℕ) → has_zero s ≡ false → has_zero (after_first is_slash s) ≡ false
no_zero_after s h = (parts (position_or_len is_slash s + 1) s h).1

pub on_ok_map : {T E A B : Type 0} (r : Result T E) → OnOk r A → (A → B) → OnOk r B
on_ok_map (Ok x) a f = f a
on_ok_map (Err x) a f = tt

pub none_pushed : (name text new : List ℕ) → position_or_len is_slash text ≡ length text → new ≡ name ++ text → new ≡ name ++ map unslashed text
none_pushed name text new h e = e ∙ ap (λ l. name ++ l) (sym (no_slash text h))

in_a_row : (name before rest : List ℕ) → ((name ++ before) ++ 95 ∷ []) ++ rest ≡ name ++ (before ++ 95 ∷ rest)
in_a_row name before rest = simp append_assoc

pub some_pushed : (name text before after a b new : List ℕ) → position_or_len is_slash text < length text → before ≡ before_first is_slash text → after ≡ after_first is_slash text
    → a ≡ name ++ before → b ≡ a ++ 95 ∷ [] → new ≡ b ++ map unslashed after → new ≡ name ++ map unslashed text
some_pushed name text before after a b new h p q r s t =
    t ∙ ap (λ l. l ++ map unslashed after) (s ∙ ap (λ l. l ++ 95 ∷ []) r) ∙ in_a_row name before (map unslashed after)
    ∙ ap (λ l. name ++ l) (ap (λ l. l ++ 95 ∷ map unslashed after) p ∙ ap (λ l. before_first is_slash text ++ 95 ∷ map unslashed l) q ∙ sym (at_slash text h))
