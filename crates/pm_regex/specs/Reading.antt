-- Which expression a text is read as.
use Rattle.std.specs.Prelude.{◌≡◌, ℕ, ◌≤◌, List, length}
use Rattle.pm_regex.specs.Re.{Whole}
use Rattle.pm_regex.specs.Macros.{Expands}
use Rattle.pm_regex.specs.Tokens.{Token, IsTokens}
use Rattle.pm_regex.specs.Grammar.{IsWhole}

-- the text after its macros is within the limit, and its tokens spell the expression
pub record Reads (text : List ℕ) (e : Whole) : Type 0 where
  pub after : List ℕ
  pub tokens : List Token
  pub expands : Expands text after
  pub room : length after ≤ 65536
  pub cut : IsTokens after tokens
  pub spelled : IsWhole tokens e

-- the text is read as nothing else
abbrev pub IsOnlyReading : List ℕ → Whole → Type 0
IsOnlyReading text e = (f : Whole) → Reads text f → f ≡ e

-- the text is read as no expression
abbrev pub HasNoReading : List ℕ → Type 0
HasNoReading text = (e : Whole) → Reads text e → ⊥

-- the tokens of a text without macros spell the expression
pub record ReadsTokens (text : List ℕ) (e : Whole) : Type 0 where
  pub tokens : List Token
  pub cut : IsTokens text tokens
  pub spelled : IsWhole tokens e
