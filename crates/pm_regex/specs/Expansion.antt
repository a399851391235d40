-- How far a text is expanded.
use Rattle.std.specs.Prelude.{◌≡◌, ℕ, ◌<◌, ◌≤◌, List, ◌++◌, length}
use Rattle.pm_regex.specs.Macros.{macro_at, span_of, put_for}

-- the bytes are added, and the whole is within the limit
pub record Puts (before bytes after : List ℕ) : Type 0 where
  pub is : after ≡ before ++ bytes
  pub room : length after ≤ 65536

-- what stands for the first part of the text is added; the part has n bytes
pub record PutsPart (text before after : List ℕ) (n : ℕ) : Type 0 where
  pub some : 0 < n
  pub within : n ≤ length text
  pub part : length (span_of (macro_at text) text) ≡ n
  pub puts : Puts before (put_for (macro_at text) text) after
