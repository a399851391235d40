-- Who keeps the lock, and who got it.
use Rattle.std.proofs.Common.{◌≡◌, ℕ, zero, suc, Bool, true, false, ◌||◌, List, [], ◌∷◌, ◌++◌, Some, refl, sym, ap, ◌∙◌, subst, nat_eq, slice_get, slice_set}
use Rattle.std.proofs.lemmas.Bool.Decides.{Decides-eqb}
use Rattle.pm_turns.specs.declared.writers.Delivery.{Delivery}
use Rattle.pm_turns.specs.Order.{keeps_lock, some_keeps, is_among, IsOnce}

pub or_true : (b : Bool) → (b || true) ≡ true
or_true true = refl
or_true false = refl

pub or_false : (b : Bool) → (b || false) ≡ b
or_false true = refl
or_false false = refl

pub or_left : (a b : Bool) → (a || b) ≡ false → a ≡ false
or_left true b e = e
or_left false b e = refl

pub or_right : (a b : Bool) → (a || b) ≡ false → b ≡ false
or_right true b e = absurd (cc)
or_right false b e = e

pub nat_same : (a : ℕ) → nat_eq a a ≡ true
nat_same a = (Decides-eqb a a).1 refl

pub nat_other : (a b : ℕ) → (a ≡ b → ⊥) → nat_eq a b ≡ false
nat_other a b ne = elim (nat_eq a b) as (λ t. nat_eq a b ≡ t → t ≡ false) [ true ↦ λ e. absurd (ne ((Decides-eqb a b).0 e)) | false ↦ λ e. refl ] refl

pub some_set : (xs : List Delivery) (w : ℕ) (old new : Delivery) → slice_get xs w ≡ Some old → keeps_lock new.place ≡ keeps_lock old.place → some_keeps (slice_set xs w new) ≡ some_keeps xs
some_set [] w old new e k = refl
some_set (z ∷ xs) zero old new e k = let f : old ≡ z = cc in ap (λ b. b || some_keeps xs) (k ∙ ap (λ x. keeps_lock x.place) f)
some_set (z ∷ xs) (suc w) old new e k = ap (λ b. keeps_lock z.place || b) (some_set xs w old new e k)

pub some_in : (xs : List Delivery) (w : ℕ) (x : Delivery) → slice_get xs w ≡ Some x → keeps_lock x.place ≡ true → some_keeps xs ≡ true
some_in [] w x e k = absurd (cc)
some_in (z ∷ xs) zero x e k = let f : z ≡ x = cc in ap (λ b. b || some_keeps xs) (ap (λ y. keeps_lock y.place) f ∙ k)
some_in (z ∷ xs) (suc w) x e k = ap (λ b. keeps_lock z.place || b) (some_in xs w x e k) ∙ or_true (keeps_lock z.place)

pub none_keeps : (xs : List Delivery) → ((i : ℕ) (x : Delivery) → slice_get xs i ≡ Some x → keeps_lock x.place ≡ false) → some_keeps xs ≡ false
none_keeps [] h = refl
none_keeps (z ∷ xs) h = ap (λ b. b || some_keeps xs) (h zero z refl) ∙ none_keeps xs (λ i. h (suc i))

pub none_of : (xs : List Delivery) (i : ℕ) (x : Delivery) → some_keeps xs ≡ false → slice_get xs i ≡ Some x → keeps_lock x.place ≡ false
none_of xs i x none e = elim (keeps_lock x.place) as (λ b. keeps_lock x.place ≡ b → b ≡ false) [
  | true ↦ λ k. absurd (let bad : true ≡ false = sym (some_in xs i x e k) ∙ none in cc)
  | false ↦ λ k. refl
] refl

pub among_new : (ws : List ℕ) (w : ℕ) → is_among (ws ++ w ∷ []) w ≡ true
among_new [] w = ap (λ b. b || false) (nat_same w)
among_new (v ∷ vs) w = ap (λ b. nat_eq v w || b) (among_new vs w) ∙ or_true (nat_eq v w)

pub among_old : (ws : List ℕ) (w i : ℕ) → (i ≡ w → ⊥) → is_among (ws ++ w ∷ []) i ≡ is_among ws i
among_old [] w i ne = ap (λ b. b || false) (nat_other w i (λ e. ne (sym e)))
among_old (v ∷ vs) w i ne = ap (λ b. nat_eq v i || b) (among_old vs w i ne)

pub once_more : (ws : List ℕ) (w : ℕ) → IsOnce ws → is_among ws w ≡ false → IsOnce (ws ++ w ∷ [])
once_more [] w h n = (refl, tt)
once_more (v ∷ vs) w h n =
    let ne : v ≡ w → ⊥ = λ e. let t : nat_eq v w ≡ true = subst (λ x. nat_eq v x ≡ true) e (nat_same v) in absurd (let bad : true ≡ false = sym t ∙ or_left (nat_eq v w) (is_among vs w) n in cc) in
    (among_old vs w v ne ∙ h.0, once_more vs w h.1 (or_right (nat_eq v w) (is_among vs w) n))
