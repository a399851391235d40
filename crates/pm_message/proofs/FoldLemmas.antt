-- Where a text is unfolded.
use Rattle.std.proofs.Common.{◌≡◌, ◌==◌, ℕ, Bool, true, false, ◌||◌, List, [], ◌∷◌, ◌++◌, refl, sym, ap, ◌∙◌, append_assoc, append-nil}
use Rattle.std.specs.List.{list_any}
use Rattle.pm_bytes.specs.Letter.{is_blank_byte}
use Rattle.pm_message.specs.FromLine.{is_newline}
use Rattle.pm_message.specs.Area.{unfolded}

or_none : (a b : Bool) → (a || b) ≡ false → (a ≡ false) × (b ≡ false)
or_none true b h = (h, cc)
or_none false b h = (refl, h)

-- a byte that is no newline stays
stays : (byte : ℕ) (rest : List ℕ) → (byte == 10) ≡ false → unfolded (byte ∷ rest) ≡ byte ∷ unfolded rest
stays byte [] other = refl
stays byte (next ∷ rest) other = rw other refl

-- bytes without a newline stay
pub line_stays : (line rest : List ℕ) → list_any is_newline line ≡ false → unfolded (line ++ rest) ≡ line ++ unfolded rest
line_stays [] rest none = refl
line_stays (byte ∷ line) rest none =
    let both = or_none (byte == 10) (list_any is_newline line) none in
    stays byte (line ++ rest) both.0 ∙ ap (λ t. byte ∷ t) (line_stays line rest both.1)

-- a newline before nothing stays, and so does nothing after it
pub ends : unfolded (10 ∷ []) ≡ 10 ∷ []
ends = refl

-- a newline before a blank reads as a space with it
pub folds : (blank : ℕ) (rest : List ℕ) → is_blank_byte blank ≡ true → unfolded (10 ∷ blank ∷ rest) ≡ 32 ∷ unfolded rest
folds blank rest is = rw is refl

-- a newline before another byte stays
pub breaks : (next : ℕ) (rest : List ℕ) → is_blank_byte next ≡ false → unfolded (10 ∷ next ∷ rest) ≡ 10 ∷ unfolded (next ∷ rest)
breaks next rest other = rw other refl

-- a line and what was put for its newline come after the text so far
pub folded_on : (whole text rest line behind put more : List ℕ) → text ++ unfolded rest ≡ whole → rest ≡ line ++ 10 ∷ behind →
    list_any is_newline line ≡ false → unfolded (10 ∷ behind) ≡ put ++ unfolded more → ((text ++ line) ++ put) ++ unfolded more ≡ whole
folded_on whole text rest line behind put more so_far cut none goes =
    append_assoc (text ++ line) put (unfolded more) ∙ append_assoc text line (put ++ unfolded more)
    ∙ ap (λ t. text ++ (line ++ t)) (sym goes) ∙ ap (λ t. text ++ t) (sym (line_stays line (10 ∷ behind) none))
    ∙ ap (λ t. text ++ unfolded t) (sym cut) ∙ so_far

-- the rest without a newline comes last
pub folded_end : (whole text rest : List ℕ) → text ++ unfolded rest ≡ whole → list_any is_newline rest ≡ false → text ++ rest ≡ whole
folded_end whole text rest so_far none =
    ap (λ t. text ++ t) (sym (append-nil rest) ∙ sym (line_stays rest [] none) ∙ ap unfolded (append-nil rest)) ∙ so_far
