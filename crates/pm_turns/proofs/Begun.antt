-- Writers none of which has begun.
use Rattle.std.proofs.Common.{◌≡◌, ◌+◌, List, [], ◌∷◌, length, map, All, sum_by, refl, sym, ap, ◌∙◌, arith}
use Rattle.std.proofs.lemmas.List.Elements.{All-map}
use Rattle.std.proofs.lemmas.List.Sums.{sum_by-cons}
use Rattle.pm_turns.specs.declared.writers.Writer.{Writer}
use Rattle.pm_turns.specs.Turning.{begun}
use Rattle.pm_turns.specs.Room.{IsWorkable, left_of, waits_of}
use Rattle.pm_turns.specs.Workable.{piece_len}

pub all_begun : (ws : List Writer) → All IsWorkable (map begun ws)
all_begun ws = All-map IsWorkable begun ws (λ k d l. tt)

pub left_begun : (ws : List Writer) → sum_by left_of (map begun ws) ≡ sum_by piece_len ws
left_begun [] = refl
left_begun (w ∷ ws) = sum_by-cons left_of (begun w) (map begun ws) ∙ ap (λ n. length w.piece + n) (left_begun ws) ∙ sym (sum_by-cons piece_len w ws)

pub waits_begun : (ws : List Writer) → sum_by waits_of (map begun ws) ≡ length ws
waits_begun [] = refl
waits_begun (w ∷ ws) = let e = waits_begun ws in let s = sum_by-cons waits_of (begun w) (map begun ws) in omega (arith, e, s)
