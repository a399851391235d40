-- What the reader makes of a bracket expression.
use Rattle.std.specs.Prelude.{◌≡◌, ℕ, ◌<◌, ◌≤◌, Bool, List, [], ◌∷◌, ◌++◌, length, drop}
use Rattle.pm_regex.specs.declared.op.Op.{Op}
use Rattle.pm_regex.specs.declared.op.Op.TheVariants as op
use Rattle.pm_regex.specs.Tokens.{bracket, Member, Body, First}

-- an operator for each range
abbrev pub range_ops : List (ℕ × ℕ) → List Op
range_ops [] = []
range_ops (r ∷ rs) = op.Range r.0 r.1 ∷ range_ops rs

-- n bytes are a member, and its operator is added
pub record ReadsMember (text : List ℕ) (before after : List Op) (n : ℕ) : Type 0 where
  pub first : ℕ
  pub last : ℕ
  pub some : 0 < n
  pub within : n ≤ length text
  pub member : Member text first last (drop n text)
  pub ops : after ≡ before ++ op.Range first last ∷ []

-- n bytes are members and their `]`, and the members' operators are added
pub record ReadsMembers (text : List ℕ) (before after : List Op) (n : ℕ) : Type 0 where
  pub ranges : List (ℕ × ℕ)
  pub within : n ≤ length text
  pub body : Body text ranges (drop n text)
  pub ops : after ≡ before ++ range_ops ranges

-- n bytes are a bracket expression, and its operators are added
pub record ReadsSet (text : List ℕ) (before after : List Op) (n : ℕ) : Type 0 where
  pub negated : Bool
  pub ranges : List (ℕ × ℕ)
  pub some : 0 < n
  pub within : n ≤ length text
  pub token : First text (bracket negated ranges) (drop n text)
  pub ops : after ≡ (before ++ range_ops ranges) ++ op.Set negated ∷ []

-- no member stands at the front of the text
abbrev pub HasNoMember : List ℕ → Type 0
HasNoMember text = (a b : ℕ) (u : List ℕ) → Member text a b u → ⊥

-- no members with their `]` stand there
abbrev pub HasNoBody : List ℕ → Type 0
HasNoBody text = (rs : List (ℕ × ℕ)) (rest : List ℕ) → Body text rs rest → ⊥
