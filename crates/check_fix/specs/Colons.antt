-- Colon lines, as docs/MOVING.md, "Recipes and conditions", "Actions" and "Blocks and lock files", has them.
use Rattle.std.specs.Prelude.{ℕ, ◌+◌, ◌-◌, Bool, true, false, not, ◌&&◌, List, [], ◌∷◌, drop, length, nat_eq, codes, if◌then◌else◌, Option, Some, None}
use Rattle.std.specs.Str.{bytes_eq}
use Rattle.pm_bytes.specs.Alphabet.{COLON, HASH}
use Rattle.pm_recipe.specs.Colon.{flags_of, flags_part}
use Rattle.pm_recipe.specs.declared.fronts.Kind.{Kind}
use Rattle.pm_recipe.specs.declared.fronts.Kind.TheVariants as kind
use Rattle.pm_recipe.specs.declared.tree.Flags.{Flags}
use Rattle.check_moving.specs.Text.{after_blanks, has_part}
use Rattle.check_fix.specs.Copies.{before_braces, has_front}
use Rattle.check_fix.specs.Edits.{edit_at}
use Rattle.check_fix.specs.Parts.{before, from_part}
use Rattle.check_fix.specs.declared.edits.Edit.{Edit}

-- from a colon on that no comment is before
abbrev pub from_colon : List ℕ → List ℕ
from_colon [] = []
from_colon (byte ∷ rest) = if nat_eq byte COLON then byte ∷ rest else if nat_eq byte HASH then [] else from_colon rest

-- from the second colon of a colon line on
abbrev pub second_colon : List ℕ → List ℕ
second_colon text = from_colon (drop 1 text)

-- from the name of its lock file on
abbrev pub lock_name : List ℕ → List ℕ
lock_name text = after_blanks (drop 1 (second_colon text))

-- `:0:` where there is no automatic lock file: `:0`
abbrev pub automatic_edits : ℕ → List ℕ → List Edit
automatic_edits first text = edit_at first text (second_colon text) 1 []

-- `:0:mbox` for the mailbox of that name: `:0:`
abbrev pub own_lock_edits : ℕ → List ℕ → Option (List ℕ) → List Edit
own_lock_edits first text None = []
own_lock_edits first text (Some lock) = edit_at first text (lock_name text) (length lock) []

-- the bytes from the second colon to the end of the lock file's name
abbrev pub lock_length : List ℕ → List ℕ → ℕ
lock_length text lock = length (second_colon text) - length (lock_name text) + length lock

-- `:0 Wh: cache.lock` for the cache of that name: `:0 Wh`; a lock file of LOCKFILE stays
abbrev pub cache_lock_edits : ℕ → List ℕ → Option (List ℕ) → List Edit
cache_lock_edits first text None = []
cache_lock_edits first text (Some lock) =
    if bytes_eq lock (codes "") then [] else edit_at first text (second_colon text) (lock_length text lock) []

-- a filter whose exit status isn't looked at
abbrev pub lacks_wait : Flags → Bool
lacks_wait flags = flags.filter && not flags.wait && not flags.wait_quiet

-- a program that gets the mail
abbrev pub is_pipe : Kind → Bool
is_pipe kind.Pipe = true
is_pipe _ = false

-- `:0 f` before a program: `:0 fw`; the `f` of a variable's name is no flag
abbrev pub wait_edits : ℕ → List ℕ → Kind → List Edit
wait_edits first text action =
    if is_pipe action && lacks_wait (flags_of (flags_part text)) && has_part (codes "f") (before_braces text)
    then edit_at first text (from_part (codes "f") text) 1 (codes "fw")
    else []

-- the flag behind these others
abbrev pub wait_flag : List ℕ → List ℕ
wait_flag front = if bytes_eq front (codes ":0") then codes " w" else codes "w"

-- `:0:prog.lock`: `:0 w:prog.lock`, if there are only flags before the second colon
abbrev pub lock_wait_edits : ℕ → List ℕ → List Edit
lock_wait_edits first text =
    if has_front (before text (second_colon text))
    then edit_at first text (second_colon text) 0 (wait_flag (before text (second_colon text)))
    else []
