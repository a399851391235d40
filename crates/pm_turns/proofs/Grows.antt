-- The order grows at its end.
use Rattle.std.proofs.Common.{◌≡◌, ℕ, Bool, true, false, cond, List, [], ◌∷◌, ◌++◌, Option, Some, None, refl, sym, ap, ◌∙◌, append_assoc, append-nil, slice_get}
use Rattle.pm_turns.specs.declared.writers.Delivery.{Delivery}
use Rattle.pm_turns.specs.declared.writers.Place.{Place}
use Rattle.pm_turns.specs.declared.writers.Will.{Will}
use Rattle.pm_turns.specs.Turning.{Turning, Event, place_by, mailbox_by, outcome_by, is_over, put, place_turn, turn, happens, run}
use Rattle.pm_turns.specs.Order.{IsPrefixOf}

all_of_it : (xs : List ℕ) → IsPrefixOf xs xs
all_of_it xs = ([], append-nil xs)

place_grows : (s : Turning) (w : ℕ) (piece : List ℕ) (place : Place) (will : Will) → IsPrefixOf s.order (place_turn s w piece place will).order
place_grows s w piece place will =
    elim (is_over place) as (λ b. IsPrefixOf s.order (cond b s (put s w piece (place_by piece place s.mailbox s.locked will) (mailbox_by piece place s.mailbox will) (outcome_by place s.locked will))).order) [
      | true ↦ all_of_it s.order
      | false ↦ elim (outcome_by place s.locked will).got as (λ b. IsPrefixOf s.order (cond b (s.order ++ w ∷ []) s.order)) [
        | true ↦ (w ∷ [], refl)
        | false ↦ all_of_it s.order
      ]
    ]

turn_grows : (s : Turning) (w : ℕ) (d : Option Delivery) (will : Will) → IsPrefixOf s.order (turn s w d will).order
turn_grows s w None will = all_of_it s.order
turn_grows s w (Some d) will = place_grows s w d.piece d.place will

event_grows : (s : Turning) (e : Event) → IsPrefixOf s.order (happens s e).order
event_grows s e = elim s.forced as (λ b. IsPrefixOf s.order (cond b s (turn s e.writer (slice_get s.writers e.writer) e.will)).order) [
  | true ↦ all_of_it s.order
  | false ↦ turn_grows s e.writer (slice_get s.writers e.writer) e.will
]

longer : (xs ys zs : List ℕ) → IsPrefixOf xs ys → IsPrefixOf ys zs → IsPrefixOf xs zs
longer xs ys zs a b = (a.0 ++ b.0, sym (append_assoc xs a.0 b.0) ∙ ap (λ t. t ++ b.0) a.1 ∙ b.1)

pub order_grows : (es : List Event) (s : Turning) → IsPrefixOf s.order (run es s).order
order_grows [] s = all_of_it s.order
order_grows (e ∷ es) s = longer s.order (happens s e).order (run es (happens s e)).order (event_grows s e) (order_grows es (happens s e))
