-- How a text is cut into tokens, from the left.
use Rattle.std.specs.Prelude.{◌≡◌, ◌≢◌, ℕ, ◌≤◌, Bool, true, false, ◌&&◌, not, ◌==◌, if◌then◌else◌, List, [], ◌∷◌, Option, Some, None}
use Rattle.pm_regex.specs.declared.op.Atom.TheVariants.{Byte, Any, LineStart, LineEnd, WordStart, WordEnd}
use Rattle.pm_regex.specs.declared.op.Times.TheVariants.{Star, Plus, Maybe}
use Rattle.pm_regex.specs.declared.sign.Sign.{Sign}
use Rattle.pm_regex.specs.declared.sign.Sign.TheVariants.{Open, Close, Bar, Cut, Edge, Repeat, One}
use Rattle.pm_regex.specs.Bytes.{OPEN, CLOSE, BAR, STAR, PLUS, QUESTION_MARK, DOT, DOLLAR, BRACKET, CLOSING_BRACKET, BACKSLASH, CARET, DASH, SLASH, LESS, GREATER}

-- a token: a sign, or a bracket expression with its ranges, which may begin with `^`
pub data Token : Type 0 where
  sign : Sign → Token
  bracket : Bool → List (ℕ × ℕ) → Token

-- What a byte spells by itself, in the order `(` `)` `|` `*` `+` `?` `.` `$`. The next three, `[` `\` `^`, depend on what
-- follows, and any other byte is itself.
abbrev pub sign_of : ℕ → Option Sign
sign_of b =
    if b == OPEN then Some Open else
    (if b == CLOSE then Some Close else
    (if b == BAR then Some Bar else
    (if b == STAR then Some (Repeat Star) else
    (if b == PLUS then Some (Repeat Plus) else
    (if b == QUESTION_MARK then Some (Repeat Maybe) else
    (if b == DOT then Some (One Any) else
    (if b == DOLLAR then Some (One LineEnd) else
    (if b == BRACKET then None else
    (if b == BACKSLASH then None else
    (if b == CARET then None else
    Some (One (Byte b))))))))))))

-- what a `\` and the byte after it spell: the cut at `/`, the edges of words at `<` and `>`, and else that byte
abbrev pub escaped_sign : ℕ → Sign
escaped_sign b =
    if b == SLASH then Cut else
    (if b == LESS then One WordStart else
    (if b == GREATER then One WordEnd else
    One (Byte b)))

-- whether the text begins with this byte
abbrev pub begins_with : ℕ → List ℕ → Bool
begins_with b [] = false
begins_with b (c ∷ u) = c == b

-- whether a `-` and a byte other than `]` stand here, so that they make a range with the byte before them
abbrev pub ends_range : List ℕ → Bool
ends_range [] = false
ends_range (a ∷ []) = false
ends_range (a ∷ b ∷ u) = (a == DASH) && not (b == CLOSING_BRACKET)

-- a member at the front of a text: its first byte, its last, and what follows it
pub data Member : List ℕ → ℕ → ℕ → List ℕ → Type 0 where
  range : (a b : ℕ) (u : List ℕ) → b ≢ CLOSING_BRACKET → a ≤ b → Member (a ∷ DASH ∷ b ∷ u) a b u
  byte : (a : ℕ) (u : List ℕ) → ends_range u ≡ false → Member (a ∷ u) a a u

-- members up to the `]`, and what follows it
pub data Members : List ℕ → List (ℕ × ℕ) → List ℕ → Type 0 where
  closed : (rest : List ℕ) → Members (CLOSING_BRACKET ∷ rest) [] rest
  more : (t u rest : List ℕ) (a b : ℕ) (rs : List (ℕ × ℕ)) → begins_with CLOSING_BRACKET t ≡ false → Member t a b u → Members u rs rest →
      Members t ((a, b) ∷ rs) rest

-- the members of a bracket expression: the first byte is a member even if it is a `]`
pub data Body : List ℕ → List (ℕ × ℕ) → List ℕ → Type 0 where
  body : (t u rest : List ℕ) (a b : ℕ) (rs : List (ℕ × ℕ)) → Member t a b u → Members u rs rest → Body t ((a, b) ∷ rs) rest

-- the first token of a text, and what follows it
pub data First : List ℕ → Token → List ℕ → Type 0 where
  plain : (b : ℕ) (s : Sign) (rest : List ℕ) → sign_of b ≡ Some s → First (b ∷ rest) (sign s) rest
  escape : (b : ℕ) (rest : List ℕ) → First (BACKSLASH ∷ b ∷ rest) (sign (escaped_sign b)) rest
  edge : (rest : List ℕ) → First (CARET ∷ CARET ∷ rest) (sign Edge) rest
  line_start : (rest : List ℕ) → begins_with CARET rest ≡ false → First (CARET ∷ rest) (sign (One LineStart)) rest
  members : (u rest : List ℕ) (rs : List (ℕ × ℕ)) → begins_with CARET u ≡ false → Body u rs rest → First (BRACKET ∷ u) (bracket false rs) rest
  others : (u rest : List ℕ) (rs : List (ℕ × ℕ)) → Body u rs rest → First (BRACKET ∷ CARET ∷ u) (bracket true rs) rest

-- the text is these tokens, one after the other
pub data IsTokens : List ℕ → List Token → Type 0 where
  none : IsTokens [] []
  next : (text rest : List ℕ) (t : Token) (ts : List Token) → First text t rest → IsTokens rest ts → IsTokens text (t ∷ ts)
