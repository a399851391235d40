-- Writers after one of them went on.
use Rattle.std.proofs.Common.{◌≡◌, ℕ, zero, suc, List, [], ◌∷◌, ◌++◌, map, Some, refl, sym, ap, ◌∙◌, subst, append_assoc, append-nil, slice_get, slice_set}
use Rattle.pm_turns.specs.declared.writers.Delivery.{Delivery}
use Rattle.pm_turns.specs.declared.writers.Writer.{Writer}
use Rattle.pm_turns.specs.Turning.{begun}
use Rattle.pm_turns.specs.Order.{by_writer, added, IsGone, HasGone, AllGone}

pub get_set_same : (xs : List Delivery) (i : ℕ) (x y : Delivery) → slice_get xs i ≡ Some x → slice_get (slice_set xs i y) i ≡ Some y
get_set_same [] i x y e = absurd (cc)
get_set_same (z ∷ xs) zero x y e = refl
get_set_same (z ∷ xs) (suc i) x y e = get_set_same xs i x y e

pub get_set_other : (xs : List Delivery) (i j : ℕ) (y : Delivery) → (j ≡ i → ⊥) → slice_get (slice_set xs i y) j ≡ slice_get xs j
get_set_other [] i j y ne = refl
get_set_other (z ∷ xs) zero zero y ne = absurd (ne refl)
get_set_other (z ∷ xs) zero (suc j) y ne = refl
get_set_other (z ∷ xs) (suc i) zero y ne = refl
get_set_other (z ∷ xs) (suc i) (suc j) y ne = get_set_other xs i j y (λ e. ne (ap suc e))

pub get_begun : (ws : List Writer) (i : ℕ) (d : Delivery) (P : Delivery → Type 0) → ((w : Writer) → P (begun w)) → slice_get (map begun ws) i ≡ Some d → P d
get_begun [] i d P h e = absurd (cc)
get_begun (w ∷ ws) zero d P h e = let f : begun w ≡ d = cc in subst P f (h w)
get_begun (w ∷ ws) (suc i) d P h e = get_begun ws i d P h e

-- one that hasn't gone is none of those that have
pub not_it : (xs : List Delivery) (w i : ℕ) (x : Delivery) → slice_get xs w ≡ Some x → (IsGone x.place → ⊥) → HasGone (slice_get xs i) → i ≡ w → ⊥
not_it xs w i x e here gone same = here (subst HasGone (ap (slice_get xs) same ∙ e) gone)

pub gone_kept : (xs : List Delivery) (ws : List ℕ) (w : ℕ) (x y : Delivery) → slice_get xs w ≡ Some x → (IsGone x.place → ⊥) → AllGone xs ws → AllGone (slice_set xs w y) ws
gone_kept xs [] w x y e here h = tt
gone_kept xs (i ∷ is) w x y e here h =
    (subst HasGone (sym (get_set_other xs w i y (not_it xs w i x e here h.0))) h.0, gone_kept xs is w x y e here h.1)

pub added_kept : (xs : List Delivery) (ws : List ℕ) (w : ℕ) (x y : Delivery) → slice_get xs w ≡ Some x → (IsGone x.place → ⊥) → AllGone xs ws → added (slice_set xs w y) ws ≡ added xs ws
added_kept xs [] w x y e here h = refl
added_kept xs (i ∷ is) w x y e here h =
    ap (λ g. by_writer g ++ added (slice_set xs w y) is) (get_set_other xs w i y (not_it xs w i x e here h.0))
    ∙ ap (λ t. by_writer (slice_get xs i) ++ t) (added_kept xs is w x y e here h.1)

pub gone_more : (xs : List Delivery) (ws : List ℕ) (w : ℕ) → AllGone xs ws → HasGone (slice_get xs w) → AllGone xs (ws ++ w ∷ [])
gone_more xs [] w h g = (g, tt)
gone_more xs (i ∷ is) w h g = (h.0, gone_more xs is w h.1 g)

pub added_more : (xs : List Delivery) (ws : List ℕ) (w : ℕ) → added xs (ws ++ w ∷ []) ≡ added xs ws ++ by_writer (slice_get xs w)
added_more xs [] w = append-nil (by_writer (slice_get xs w))
added_more xs (i ∷ is) w = ap (λ t. by_writer (slice_get xs i) ++ t) (added_more xs is w) ∙ sym (append_assoc (by_writer (slice_get xs i)) (added xs is) (by_writer (slice_get xs w)))
