-- Forms of colon lines and of blocks (procmailrc(5), "Flags", "Blocks" and "Lock files").
use Rattle.std.specs.Prelude.{ℕ, Bool, false, not, ◌||◌, ◌&&◌, List, [], ◌∷◌, codes, Option, Some, None}
use Rattle.std.specs.Str.{bytes_eq}
use Rattle.pm_recipe.specs.Colon.{flags_of, flags_part, lock_of}
use Rattle.pm_recipe.specs.declared.tree.Flags.{Flags}
use Rattle.check_moving.specs.Mailboxes.{is_automatic}
use Rattle.check_moving.specs.declared.form.Form.{Form}
use Rattle.check_moving.specs.declared.form.Form.TheVariants.{Program, Recipe}
use Rattle.check_moving.specs.declared.form.ProgramForm.TheVariants as program
use Rattle.check_moving.specs.declared.form.RecipeForm.TheVariants as form

-- A, a or e on the first recipe of a block
abbrev pub is_first_chain : Bool → Flags → Bool
is_first_chain fresh flags = fresh && (flags.and_chain || flags.and_ok || flags.on_error)

-- a or e after a block
abbrev pub is_after_block : Bool → Flags → Bool
is_after_block closed flags = closed && (flags.and_ok || flags.on_error)

-- a lock file of this name
abbrev pub is_lock : List ℕ → Option (List ℕ) → Bool
is_lock name None = false
is_lock name (Some lock) = bytes_eq lock name && not (bytes_eq lock (codes ""))

-- a lock file with a name
abbrev pub is_named : Option (List ℕ) → Bool
is_named None = false
is_named (Some lock) = not (bytes_eq lock (codes ""))

-- on a block that is no copy
abbrev pub is_block_lock : Flags → Option (List ℕ) → Bool
is_block_lock flags lock = is_named lock && not flags.copy

-- neither w nor W
abbrev pub lacks_wait : Flags → Bool
lacks_wait flags = not (flags.wait || flags.wait_quiet)

-- with a lock file, of a name or automatic
abbrev pub is_locked : Flags → Option (List ℕ) → Bool
is_locked flags None = false
is_locked flags (Some lock) = lacks_wait flags

-- 3.22 looks at the exit status by the lock file alone
abbrev pub is_unwatched : List ℕ → Bool
is_unwatched colon = is_locked (flags_of (flags_part colon)) (lock_of colon)

-- a or e after such a recipe
abbrev pub is_after_lock : Bool → Flags → Bool
is_after_lock unwatched flags = unwatched && (flags.and_ok || flags.on_error)

-- the forms of a colon line, as the first of a block, after a block, after such a recipe, and under a lock file
abbrev pub begun : Bool → Bool → Bool → List ℕ → List ℕ → List (Bool × Form)
begun fresh closed unwatched held colon =
    (is_first_chain fresh (flags_of (flags_part colon)), Recipe form.FirstChain)
    ∷ (is_after_block closed (flags_of (flags_part colon)), Recipe form.AfterBlock)
    ∷ (is_lock held (lock_of colon), Recipe form.HeldLock)
    ∷ (is_after_lock unwatched (flags_of (flags_part colon)), Recipe form.AfterLock)
    ∷ []

-- the forms of a block under this colon line
abbrev pub opened : List ℕ → List (Bool × Form)
opened colon =
    (is_block_lock (flags_of (flags_part colon)) (lock_of colon), Recipe form.BlockLock)
    ∷ (is_automatic (lock_of colon), Recipe form.BlockAutoLock)
    ∷ ((flags_of (flags_part colon)).copy, Recipe form.BlockCopy)
    ∷ []

-- the same of a recipe that is neither a filter nor a copy
abbrev pub is_lost : List ℕ → Bool
is_lost colon = is_unwatched colon && not (flags_of (flags_part colon)).filter && not (flags_of (flags_part colon)).copy

-- the forms of a program or a forward under this colon line
abbrev pub sent : List ℕ → List (Bool × Form)
sent colon = (is_lost colon, Program program.LockWait) ∷ []
