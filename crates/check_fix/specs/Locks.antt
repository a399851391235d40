-- The lock of a cache by LOCKFILE, as docs/MOVING.md, "formail", has it.
use Rattle.std.specs.Prelude.{ℕ, ◌-◌, Bool, false, not, ◌||◌, ◌&&◌, List, [], ◌∷◌, length, take, nat_eq, codes, if◌then◌else◌}
use Rattle.std.specs.List.{ends_with}
use Rattle.std.specs.Str.{bytes_eq}
use Rattle.pm_recipe.specs.declared.spans.Span.{Span}
use Rattle.check_moving.specs.Text.{has_part, without_quotes}
use Rattle.check_fix.specs.Edits.{edit_at}
use Rattle.check_fix.specs.declared.edits.Edit.{Edit}

-- without so many bytes at the end
abbrev pub without_end : ℕ → List ℕ → List ℕ
without_end count text = take (length text - count) text

-- the cache whose lock file has this name
abbrev pub cache_of : List ℕ → List ℕ
cache_of name =
    if ends_with nat_eq name (codes ".lock") then without_end 5 name
    else if ends_with nat_eq name (codes "$LOCKEXT") then without_end 8 name
    else if ends_with nat_eq name (codes "${LOCKEXT}") then without_end 10 name
    else []

-- without braces: `${X}` is `$X`
abbrev pub without_braces : List ℕ → List ℕ
without_braces [] = []
without_braces (byte ∷ rest) = if nat_eq byte 123 || nat_eq byte 125 then without_braces rest else byte ∷ without_braces rest

-- a call of formail with a cache
abbrev pub calls_cache : List ℕ → Bool
calls_cache text =
    has_part (codes "formail -D") text || has_part (codes "FORMAIL -D") text || has_part (codes "formail -rD") text
    || has_part (codes "FORMAIL -rD") text

-- with this one
abbrev pub uses_cache : List ℕ → List ℕ → Bool
uses_cache cache text = calls_cache text && has_part cache text

-- before LOCKFILE gets another value
abbrev pub cache_follows : List ℕ → List Span → Bool
cache_follows cache [] = false
cache_follows cache (span ∷ spans) =
    if bytes_eq span.name.now (codes "LOCKFILE") then false
    else uses_cache cache (without_braces span.bytes.now) || cache_follows cache spans

-- the cache of a value has a name, and is used
abbrev pub locks_cache : List ℕ → List Span → Bool
locks_cache cache spans = not (bytes_eq cache (codes "")) && cache_follows cache spans

-- `LOCKFILE=$CACHE.lock` before `formail -D 8192 $CACHE`: `LOCKFILE=`
abbrev pub held_edits : ℕ → List ℕ → List ℕ → List Span → List Edit
held_edits first text value spans =
    if locks_cache (without_braces (cache_of (without_quotes value))) spans then edit_at first text value (length value) [] else []
