-- A join is gone from joined lines, and other bytes stay.
use Rattle.std.proofs.Common.{◌≡◌, ◌+◌, ℕ, Bool, true, false, ◌&&◌, cond, nat_eq, List, [], ◌∷◌, ◌++◌, refl, ap, sym, ◌∙◌, arith}
use Rattle.std.proofs.lemmas.Bool.{cond-true, cond-false}
use Rattle.pm_bytes.specs.Alphabet.{BACKSLASH, NEWLINE}
use Rattle.pm_bytes.specs.Letter.{is_blank_byte}
use Rattle.pm_recipe.specs.Spans.{newlines}
use Rattle.pm_recipe.specs.Conditions.{are_blank}
use Rattle.pm_recipe.specs.Joins.{is_join, unjoined, without_indents, unindented}
use Rattle.pm_recipe.proofs.Forms.{and-left, and-right, no}
use Rattle.pm_recipe.proofs.Unjoined.{and-none, no-blank}

-- a text without a newline: its first byte, and the others
record NoLine (byte : ℕ) (bytes : List ℕ) : Type 0 where
  here : nat_eq byte NEWLINE ≡ false
  later : newlines bytes ≡ 0

no-line : (byte : ℕ) (bytes : List ℕ) → newlines (byte ∷ bytes) ≡ 0 → NoLine byte bytes
no-line byte bytes h = by (nat_eq byte NEWLINE) refl h
  where
    by : (b : Bool) → nat_eq byte NEWLINE ≡ b → cond b (newlines bytes + 1) (newlines bytes) ≡ 0 → NoLine byte bytes
    by true is e = absurd (omega (arith, e))
    by false is e = record { here = is; later = e }

-- no join begins before another byte than a newline
no-join : (byte next : ℕ) (bytes : List ℕ) → nat_eq next NEWLINE ≡ false → is_join byte (next ∷ bytes) ≡ false
no-join byte next bytes h = ap (λ b. nat_eq byte BACKSLASH && b) h ∙ and-none (nat_eq byte BACKSLASH)

pub joined : (front rest : List ℕ) → newlines front ≡ 0 → unjoined (front ++ (BACKSLASH ∷ (NEWLINE ∷ rest))) ≡ front ++ unjoined rest
joined [] rest h = refl
joined (byte ∷ []) rest h = cond-false (is_join byte (BACKSLASH ∷ (NEWLINE ∷ rest))) _ _ (no-join byte BACKSLASH (NEWLINE ∷ rest) refl)
joined (byte ∷ (next ∷ bytes)) rest h =
    let later = (no-line byte (next ∷ bytes) h).later in
    let all = bytes ++ (BACKSLASH ∷ (NEWLINE ∷ rest)) in
    cond-false (is_join byte (next ∷ all)) _ _ (no-join byte next all (no-line next bytes later).here)
    ∙ ap (λ xs. byte ∷ xs) (joined (next ∷ bytes) rest later)

pub plain : (text : List ℕ) → newlines text ≡ 0 → unjoined text ≡ text
plain [] h = refl
plain (byte ∷ []) h = refl
plain (byte ∷ (next ∷ bytes)) h =
    let later = (no-line byte (next ∷ bytes) h).later in
    cond-false (is_join byte (next ∷ bytes)) _ _ (no-join byte next bytes (no-line next bytes later).here)
    ∙ ap (λ xs. byte ∷ xs) (plain (next ∷ bytes) later)

-- blanks after a join
indent : (blanks : List ℕ) (byte : ℕ) (rest : List ℕ) → are_blank blanks ≡ true → is_blank_byte byte ≡ false
    → without_indents true (blanks ++ (byte ∷ rest)) ≡ without_indents false (byte ∷ rest)
indent [] byte [] h i = cond-false (is_blank_byte byte) _ _ i
indent [] byte (next ∷ rest) h i =
    ap (λ xs. cond (is_join byte (next ∷ rest)) (without_indents true rest) xs) (cond-false (is_blank_byte byte) _ _ i)
indent (blank ∷ blanks) byte rest h i =
    by (blanks ++ (byte ∷ rest)) (and-left (is_blank_byte blank) _ h) (indent blanks byte rest (and-right (is_blank_byte blank) _ h) i)
  where
    by : (more : List ℕ) → is_blank_byte blank ≡ true → without_indents true more ≡ without_indents false (byte ∷ rest)
        → without_indents true (blank ∷ more) ≡ without_indents false (byte ∷ rest)
    by [] b e = cond-true (is_blank_byte blank) _ _ b ∙ e
    by (next ∷ more) b e =
        cond-false (is_join blank (next ∷ more)) _ _ (apart (is_join blank (next ∷ more)) refl b) ∙ cond-true (is_blank_byte blank) _ _ b ∙ e
      where
        apart : (j : Bool) → is_join blank (next ∷ more) ≡ j → is_blank_byte blank ≡ true → is_join blank (next ∷ more) ≡ false
        apart true is b = no (sym (no-blank blank (next ∷ more) is) ∙ b)
        apart false is b = is

pub unindents : (front blanks : List ℕ) (byte : ℕ) (rest : List ℕ) → newlines front ≡ 0 → are_blank blanks ≡ true → is_blank_byte byte ≡ false
    → unindented (front ++ (BACKSLASH ∷ (NEWLINE ∷ (blanks ++ (byte ∷ rest))))) ≡ front ++ unindented (byte ∷ rest)
unindents [] blanks byte rest h b i = indent blanks byte rest b i
unindents (first ∷ []) blanks byte rest h b i =
    let more = NEWLINE ∷ (blanks ++ (byte ∷ rest)) in
    cond-false (is_join first (BACKSLASH ∷ more)) _ _ (no-join first BACKSLASH more refl) ∙ ap (λ xs. first ∷ xs) (indent blanks byte rest b i)
unindents (first ∷ (next ∷ bytes)) blanks byte rest h b i =
    let later = (no-line first (next ∷ bytes) h).later in
    let all = bytes ++ (BACKSLASH ∷ (NEWLINE ∷ (blanks ++ (byte ∷ rest)))) in
    cond-false (is_join first (next ∷ all)) _ _ (no-join first next all (no-line next bytes later).here)
    ∙ ap (λ xs. first ∷ xs) (unindents (next ∷ bytes) blanks byte rest later b i)

pub unindents-plain : (text : List ℕ) → newlines text ≡ 0 → unindented text ≡ text
unindents-plain [] h = refl
unindents-plain (byte ∷ []) h = refl
unindents-plain (byte ∷ (next ∷ bytes)) h =
    let later = (no-line byte (next ∷ bytes) h).later in
    cond-false (is_join byte (next ∷ bytes)) _ _ (no-join byte next bytes (no-line next bytes later).here)
    ∙ ap (λ xs. byte ∷ xs) (unindents-plain (next ∷ bytes) later)
