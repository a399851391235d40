-- The code keeps the bytes that stand in no join.
use Rattle.std.proofs.Common.{◌≡◌, ℕ, Bool, true, false, ◌&&◌, ◌||◌, cond, nat_eq, List, [], ◌∷◌, refl, ap, ◌∙◌, sym}
use Rattle.pm_bytes.specs.Alphabet.{BACKSLASH, NEWLINE}
use Rattle.pm_bytes.specs.Letter.{is_blank_byte}
use Rattle.pm_recipe.specs.declared.joins.Side.TheVariants.{Text, Newline, Indent}
use Rattle.pm_recipe.specs.Bytes.{begins_with}
use Rattle.pm_recipe.specs.Joins.{is_join, unjoined, without_indents, unindented}
use Rattle.pm_recipe.specs.Kept.{kept}
use Rattle.pm_recipe.proofs.Forms.{equal, no}

pub and-none : (b : Bool) → (b && false) ≡ false
and-none true = refl
and-none false = refl

pub kept-unjoined : (text : List ℕ) → kept false Text text ≡ unjoined text
kept-unjoined [] = refl
kept-unjoined (byte ∷ []) = ap (λ j. cond j [] (byte ∷ [])) (and-none (nat_eq byte BACKSLASH))
kept-unjoined (byte ∷ (next ∷ bytes)) = by (is_join byte (next ∷ bytes)) (kept-unjoined bytes) (kept-unjoined (next ∷ bytes))
  where
    by : (j : Bool) → kept false Text bytes ≡ unjoined bytes → kept false Text (next ∷ bytes) ≡ unjoined (next ∷ bytes)
        → cond j (kept false (cond j Newline Text) (next ∷ bytes)) (byte ∷ kept false (cond j Newline Text) (next ∷ bytes))
        ≡ cond j (unjoined bytes) (byte ∷ unjoined (next ∷ bytes))
    by true e f = e
    by false e f = ap (λ xs. byte ∷ xs) f

-- after a join, or not
record AreKept (text : List ℕ) : Type 0 where
  plain : kept true Text text ≡ without_indents false text
  indented : kept true Indent text ≡ without_indents true text

pub no-blank : (byte : ℕ) (rest : List ℕ) → is_join byte rest ≡ true → is_blank_byte byte ≡ false
no-blank byte rest h = ap is_blank_byte (equal byte BACKSLASH (first (nat_eq byte BACKSLASH) (begins_with NEWLINE rest) h))
  where
    first : (a b : Bool) → (a && b) ≡ true → a ≡ true
    first true b h = refl
    first false b h = h

kept-both : (text : List ℕ) → AreKept text
kept-both [] = record { plain = refl; indented = refl }
kept-both (byte ∷ []) = record {
  plain = ap (λ j. cond j [] (byte ∷ [])) (and-none (nat_eq byte BACKSLASH));
  indented = last (is_blank_byte byte) (nat_eq byte BACKSLASH);
}
  where
    last : (b j : Bool) → cond (b || (j && false)) [] (byte ∷ []) ≡ cond (true && b) [] (byte ∷ [])
    last true j = refl
    last false true = refl
    last false false = refl
kept-both (byte ∷ (next ∷ bytes)) = record {
  plain = text (is_join byte (next ∷ bytes)) (kept-both bytes) (kept-both (next ∷ bytes));
  indented = indent (is_blank_byte byte) (is_join byte (next ∷ bytes)) refl refl (kept-both bytes) (kept-both (next ∷ bytes));
}
  where
    text : (j : Bool) → AreKept bytes → AreKept (next ∷ bytes)
        → cond j (kept true (cond j Newline Text) (next ∷ bytes)) (byte ∷ kept true (cond j Newline Text) (next ∷ bytes))
        ≡ cond j (without_indents true bytes) (byte ∷ without_indents false (next ∷ bytes))
    text true e f = e.indented
    text false e f = ap (λ xs. byte ∷ xs) f.plain

    indent : (b j : Bool) → is_blank_byte byte ≡ b → is_join byte (next ∷ bytes) ≡ j → AreKept bytes → AreKept (next ∷ bytes)
        → cond (b || j) (kept true (cond b Indent (cond j Newline Text)) (next ∷ bytes)) (byte ∷ kept true (cond b Indent (cond j Newline Text)) (next ∷ bytes))
        ≡ cond j (without_indents true bytes) (cond (true && b) (without_indents true (next ∷ bytes)) (byte ∷ without_indents false (next ∷ bytes)))
    indent true true h i e f = no (sym (no-blank byte (next ∷ bytes) i) ∙ h)
    indent true false h i e f = f.indented
    indent false true h i e f = e.indented
    indent false false h i e f = ap (λ xs. byte ∷ xs) f.plain

pub kept-unindented : (text : List ℕ) → kept true Text text ≡ unindented text
kept-unindented text = (kept-both text).plain
