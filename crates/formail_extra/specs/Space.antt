-- The memory of a step with a cache.
use Rattle.std.specs.Prelude.{◌≡◌, ◌≤◌, ℕ, Option, List, [], vec_capacity}
use Rattle.formail_extra.specs.Room.{HasRoom}
use Rattle.formail_extra.specs.declared.space.Space.{Space}

-- there is room for all that is looked through of a cache, and for what is made of that
pub record IsReserved (ids : List (Option (List ℕ))) (space : Space) : Type 0 where
  pub nothing_read : space.read.items ≡ []
  pub read : 2097152 ≤ vec_capacity space.read
  pub marking : HasRoom 2097152 ids space.marking
