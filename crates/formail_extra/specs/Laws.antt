-- A law on the bytes of a cache that are looked through.
use Rattle.std.specs.Prelude.{◌≡◌, ◌≤◌, ◌⊎◌, ℕ, Option, List, take}
use Rattle.formail_extra.specs.Cache.{Marks, marks_of}

-- the mails have the same marks, and the cache after them is the same, or both times nothing is new
pub record SameMarks (front whole : List ℕ) (by_front by_whole : Marks) : Type 0 where
  pub kept : by_front.kept ≡ by_whole.kept
  pub cache : (by_front.cache ≡ by_whole.cache) ⊎ ((by_front.cache ≡ front) × (by_whole.cache ≡ whole))

-- mails are marked by the first 2,097,152 bytes of a cache as by all of them, if it begins again with no more
abbrev pub MarksByFront : Type 0
MarksByFront =
    (most : ℕ) (bytes : List ℕ) (ids : List (Option (List ℕ))) → most ≤ 2097152
    → SameMarks (take 2097152 bytes) bytes (marks_of most (take 2097152 bytes) ids) (marks_of most bytes ids)
