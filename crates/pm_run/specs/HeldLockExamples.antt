-- Which locks are right where a process stands, in short cases.
use Rattle.std.specs.Prelude.{ℕ, List, [], ◌∷◌, Some, None, codes}
use Rattle.pm_meaning.specs.Chains.{new_chain}
use Rattle.pm_meaning.specs.Minds.{Mind}
use Rattle.pm_meaning.specs.Running.{Item, BlockEnd, FileEnd, Running, LeavingFile, Over}
use Rattle.pm_meaning.specs.declared.process.End.TheVariants.{Delivered}
use Rattle.pm_run.specs.HeldLocks.{HoldsRight}

-- three names of lock files
abbrev pub outer_lock : List ℕ
outer_lock = codes "a"

abbrev pub inner_lock : List ℕ
inner_lock = codes "b"

abbrev pub global_lock : List ℕ
global_lock = codes "g"

-- the process with these locks, of which `g` is LOCKFILE's
abbrev pub named_g : List (List ℕ) → Mind → Mind
named_g locks p = record p { locks = locks; global = Some global_lock }

-- the process with these locks, where LOCKFILE has none
abbrev pub unnamed : List (List ℕ) → Mind → Mind
unnamed locks p = record p { locks = locks; global = None }

-- what is left inside a block with the lock `b`, in an rcfile that was included inside one with the lock `a`
abbrev pub in_two_blocks : List Item
in_two_blocks = BlockEnd new_chain (Some inner_lock) ∷ FileEnd (codes "rc") ∷ BlockEnd new_chain (Some outer_lock) ∷ []

-- what is left inside the outer block alone
abbrev pub in_one_block : List Item
in_one_block = BlockEnd new_chain (Some outer_lock) ∷ []

-- Inside two blocks that have locks, and with LOCKFILE's `g`, a process holds these three, the locks of the blocks with the inner one
-- first, and no other; where it is over it holds LOCKFILE's alone.
pub record OfHeldLocks : Type 0 where
  pub nested : (p : Mind) → HoldsRight (Running in_two_blocks (named_g (inner_lock ∷ global_lock ∷ outer_lock ∷ []) p))
  pub without_global : (p : Mind) → HoldsRight (Running in_two_blocks (unnamed (inner_lock ∷ outer_lock ∷ []) p))
  pub leaving_one : (p : Mind) → HoldsRight (LeavingFile (Some inner_lock ∷ None ∷ []) in_one_block (named_g (global_lock ∷ inner_lock ∷ outer_lock ∷ []) p))
  pub of_no_block : (p : Mind) → HoldsRight (Running in_two_blocks (unnamed (global_lock ∷ inner_lock ∷ outer_lock ∷ []) p)) → ⊥
  pub one_lost : (p : Mind) → HoldsRight (Running in_two_blocks (unnamed (outer_lock ∷ []) p)) → ⊥
  pub turned_round : (p : Mind) → HoldsRight (Running in_two_blocks (unnamed (outer_lock ∷ inner_lock ∷ []) p)) → ⊥
  pub global_lost : (p : Mind) → HoldsRight (Running in_two_blocks (named_g (inner_lock ∷ outer_lock ∷ []) p)) → ⊥
  pub twice : (p : Mind) → HoldsRight (Running in_one_block (named_g (global_lock ∷ outer_lock ∷ global_lock ∷ []) p)) → ⊥
  pub over : (p : Mind) → HoldsRight (Over Delivered (named_g (global_lock ∷ []) p))
  pub over_without : (p : Mind) → HoldsRight (Over Delivered (unnamed [] p))
  pub over_more : (p : Mind) → HoldsRight (Over Delivered (named_g (inner_lock ∷ global_lock ∷ []) p)) → ⊥
  pub over_other : (p : Mind) → HoldsRight (Over Delivered (named_g (inner_lock ∷ []) p)) → ⊥
