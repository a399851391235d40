-- What stands at the front of a text.
use Rattle.std.specs.Prelude.{ℕ, ◌<◌, ◌≤◌, List, length, drop}
use Rattle.pm_regex.specs.declared.sign.Spelling.{Spelling}
use Rattle.pm_regex.specs.Tokens.{Token, sign, First}

-- the sign with so many bytes is the first token
pub record IsSpelled (text : List ℕ) (s : Spelling) : Type 0 where
  pub some : 0 < s.length
  pub within : s.length ≤ length text
  pub token : First text (sign s.sign) (drop s.length text)

-- no token stands at the front of the text
abbrev pub HasNoToken : List ℕ → Type 0
HasNoToken text = (t : Token) (rest : List ℕ) → First text t rest → ⊥
