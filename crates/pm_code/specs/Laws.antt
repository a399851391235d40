-- The laws of flat code.
use Rattle.std.specs.Prelude.{◌≡◌, ℕ, suc, ◌+◌, ◌<◌, List, [], ◌∷◌, Some, length, drop}
use Rattle.pm_recipe.specs.Tree.{Trees}
use Rattle.pm_code.specs.Flat.{Flat, written}
use Rattle.pm_code.specs.Ahead.{lists_of, onto, ends_of, past, nth}
use Rattle.pm_code.specs.Between.{IsBetween}

-- a block ends so many steps on, and what stands ahead after its end is what stands ahead after the block
pub record EndsThere (at k end : ℕ) (steps : List Flat) : Type 0 where
  pub far : ℕ
  pub place : end ≡ at + far
  pub within : far < length steps
  pub behind : lists_of (drop (suc far) steps) ≡ past (suc k) (lists_of steps)

-- the open block with this number, from 0 for the innermost, ends at the place that is read for it
abbrev pub BlocksEnd : Type 0
BlocksEnd = (k at end : ℕ) (steps : List Flat) → nth k (ends_of at steps) ≡ Some end → EndsThere at k end steps

-- of whole code all its statements stand ahead, and nothing after them
abbrev pub WholeAhead : Type 0
WholeAhead = (trees : Trees) → lists_of (written 0 trees) ≡ trees ∷ []

-- what stands ahead at a place are the statements up to another one, and then what stands ahead there
abbrev pub BetweenAhead : Type 0
BetweenAhead = (steps : List Flat) (at end : ℕ) (trees : Trees) → IsBetween steps at end trees
    → lists_of (drop at steps) ≡ onto trees (lists_of (drop end steps))

-- between two places stand no other statements
abbrev pub BetweenOnce : Type 0
BetweenOnce = (steps : List Flat) (at end : ℕ) (trees others : Trees) → IsBetween steps at end trees
    → IsBetween steps at end others → trees ≡ others
