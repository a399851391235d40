-- The grammar: which tokens spell which expression.
use Rattle.std.specs.Prelude.{ℕ, ◌+◌, ◌<◌, Bool, true, false, List, [], ◌∷◌, ◌++◌, Some, None}
use Rattle.pm_regex.specs.declared.op.Atom.{Atom}
use Rattle.pm_regex.specs.declared.op.Atom.TheVariants.{Byte, AreaStart, AreaEnd}
use Rattle.pm_regex.specs.declared.op.Times.{Times}
use Rattle.pm_regex.specs.declared.op.Times.TheVariants.{Star, Plus, Maybe}
use Rattle.pm_regex.specs.declared.sign.Sign.TheVariants.{Open, Close, Bar, Cut, Edge, Repeat, One}
use Rattle.pm_regex.specs.Re.{Re, nothing, one, set, seq, either, times, Whole}
use Rattle.pm_regex.specs.Tokens.{Token, sign, bracket}
use Rattle.pm_regex.specs.Bytes.{STAR, PLUS, QUESTION_MARK}

-- the byte that spells a repeat
abbrev pub times_byte : Times → ℕ
times_byte Star = STAR
times_byte Plus = PLUS
times_byte Maybe = QUESTION_MARK

-- where a piece stands: at the front of its branch, there but directly after the cut, or after another piece
pub data Stand : Type 0 where
  front : Stand
  cut_front : Stand
  behind : Stand

-- the front of a branch; the flag says whether it is directly after the cut
abbrev pub start_of : Bool → Stand
start_of true = cut_front
start_of false = front

-- two carets ask for the start of the area at the front of a branch, and else for its end
abbrev pub edge_atom : Stand → Atom
edge_atom front = AreaStart
edge_atom cut_front = AreaEnd
edge_atom behind = AreaEnd

-- In these three d parentheses are open around the tokens.
mutual
  -- The tokens are a piece: an atom and its repeats. At the front of a branch the byte of a repeat is an atom.
  pub data IsPiece : ℕ → Stand → List Token → Re → Type 0 where
    atom : (d : ℕ) (s : Stand) (a : Atom) → IsPiece d s (sign (One a) ∷ []) (one a)
    members : (d : ℕ) (s : Stand) (negated : Bool) (rs : List (ℕ × ℕ)) → IsPiece d s (bracket negated rs ∷ []) (set negated rs)
    edge : (d : ℕ) (s : Stand) → IsPiece d s (sign Edge ∷ []) (one (edge_atom s))
    front_times : (d : ℕ) (t : Times) → IsPiece d front (sign (Repeat t) ∷ []) (one (Byte (times_byte t)))
    cut_times : (d : ℕ) (t : Times) → IsPiece d cut_front (sign (Repeat t) ∷ []) (one (Byte (times_byte t)))
    group : (d : ℕ) (s : Stand) (u : List Token) (e : Re) → d < 200 → IsExpr (d + 1) false u e →
        IsPiece d s (sign Open ∷ u ++ sign Close ∷ []) e
    repeated : (d : ℕ) (s : Stand) (t : Times) (u : List Token) (e : Re) → IsPiece d s u e → IsPiece d s (u ++ sign (Repeat t) ∷ []) (times t e)

  -- The tokens are a branch: pieces one after the other. The flag says whether it is directly after the cut.
  pub data IsBranch : ℕ → Bool → List Token → Re → Type 0 where
    empty : (d : ℕ) (c : Bool) → IsBranch d c [] nothing
    first : (d : ℕ) (c : Bool) (u : List Token) (e : Re) → IsPiece d (start_of c) u e → IsBranch d c u (seq nothing e)
    more : (d : ℕ) (c : Bool) (u v : List Token) (b p e : Re) → IsBranch d c u (seq b p) → IsPiece d behind v e →
        IsBranch d c (u ++ v) (seq (seq b p) e)

  -- The tokens are branches with bars between them.
  pub data IsExpr : ℕ → Bool → List Token → Re → Type 0 where
    branch : (d : ℕ) (c : Bool) (u : List Token) (e : Re) → IsBranch d c u e → IsExpr d c u e
    bar : (d : ℕ) (c : Bool) (u v : List Token) (e b : Re) → IsExpr d c u e → IsBranch d false v b → IsExpr d c (u ++ sign Bar ∷ v) (either e b)

-- The tokens are an expression, with at most one cut and that outside parentheses.
pub data IsWhole : List Token → Whole → Type 0 where
  plain : (u : List Token) (e : Re) → IsExpr 0 false u e → IsWhole u (record { left = None; right = e })
  with_cut : (u v : List Token) (l r : Re) → IsExpr 0 false u l → IsExpr 0 true v r →
      IsWhole (u ++ sign Cut ∷ v) (record { left = Some l; right = r })
