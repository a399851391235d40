-- The first place of a byte cuts a list there.
use Rattle.std.proofs.Common.{◌≡◌, ◌≤◌, ◌<◌, ◌+◌, ◌==◌, ℕ, Bool, true, false, List, ◌∷◌, ◌++◌, length, take, drop, get_or, refl, sym, ap, ◌∙◌, subst, arith}
use Rattle.std.specs.List.{list_any}
use Rattle.std.proofs.lemmas.List.Folds.{list_any_none}
use Rattle.std.proofs.lemmas.List.Elements.{All-from_get_or}
use Rattle.std.proofs.lemmas.List.{get_or-take, take-append-drop, drop_more, length-take-le}
use Rattle.memchr.specs.Find.{Nowhere, Passes, is_byte}

not_true : (b : Bool) → (b ≡ true → ⊥) → b ≡ false
not_true true h = absurd (h refl)
not_true false h = refl

-- no byte before the place is the sign
pub lacks_before : (sign : ℕ) (hay : List ℕ) (k : ℕ) → k ≤ length hay → Nowhere (Passes (is_byte sign) hay) 0 k → list_any (λ b. b == sign) (take k hay) ≡ false
lacks_before sign hay k within nowhere =
    list_any_none (λ b. b == sign) (take k hay) (All-from_get_or (λ b. (b == sign) ≡ false) (take k hay) 0 (λ i less.
    let below : i < k = subst (λ n. i < n) (length-take-le k hay within) less in
    subst (λ b. (b == sign) ≡ false) (sym (get_or-take k hay i 0 below)) (not_true (get_or hay i 0 == sign) (nowhere i (omega arith) below))))

is_sign : (b sign : ℕ) → (b == sign) ≡ true → b ≡ sign
is_sign b sign h = grind arith

-- the list is what stands before the place, the sign, and what stands after it
pub cut_there : (sign : ℕ) (hay : List ℕ) (k : ℕ) → k < length hay → Passes (is_byte sign) hay k → hay ≡ take k hay ++ sign ∷ drop (k + 1) hay
cut_there sign hay k less here =
    sym (take-append-drop k hay) ∙ ap (λ l. take k hay ++ l) (drop_more hay k 0 less ∙ ap (λ b. b ∷ drop (k + 1) hay) (is_sign (get_or hay k 0) sign here))
