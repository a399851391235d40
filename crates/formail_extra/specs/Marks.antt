-- What marks say of identifiers.
use Rattle.std.specs.Prelude.{◌≡◌, ℕ, Bool, false, nat_eq, Option, Some, List, option_map}
use Rattle.formail_extra.specs.Cache.{is_seen}
use Rattle.formail_extra.specs.Table.{mark_at}
use Rattle.formail_extra.specs.declared.marks.Marks.{Marks}

-- whether an identifier is marked, if it is among those that can be
abbrev pub mark_on : Marks → List ℕ → Option Bool
mark_on marks id = option_map (λ last. nat_eq last marks.round) (mark_at marks.table id)

-- nothing is marked
abbrev pub IsClear : Marks → Type 0
IsClear marks = (id : List ℕ) (was : Bool) → mark_on marks id ≡ Some was → was ≡ false

-- an identifier is marked exactly if it was seen in these bytes of a cache
pub record MarksSeen (marks : Marks) (bytes : List ℕ) : Type 0 where
  pub each : (id : List ℕ) (was : Bool) → mark_on marks id ≡ Some was → was ≡ is_seen bytes id
