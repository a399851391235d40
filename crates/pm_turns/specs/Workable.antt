-- Writers whose cores have something to ask, and memory for all that may come.
use Rattle.std.specs.Prelude.{ℕ, ◌+◌, ◌≤◌, List, All, sum_by, length}
use Rattle.pm_turns.specs.declared.writers.Delivery.{Delivery}
use Rattle.pm_turns.specs.declared.writers.Writer.{Writer}
use Rattle.pm_turns.specs.Shelf.{Shelf}
use Rattle.pm_turns.specs.Room.{IsWorkable, left_of, waits_of}

-- each core has something to ask, and there is room for all bytes and all getters of the lock that may come
pub record Workable (writers : List Delivery) (shelf : Shelf) (orders most : ℕ) : Type 0 where
  pub sound : All IsWorkable writers
  pub room : shelf.used + sum_by left_of writers ≤ shelf.capacity
  pub places : orders + sum_by waits_of writers ≤ most

-- its tries are from 1 to 1,000,000
abbrev pub IsTriable : Writer → Type 0
IsTriable w = (1 ≤ w.tries) × (w.tries ≤ 1000000)

-- the bytes of its piece
abbrev pub piece_len : Writer → ℕ
piece_len w = length w.piece
