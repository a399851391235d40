-- What stands at the front of a text spells its kind.
use Rattle.std.proofs.Common.{◌≡◌, ◌+◌, ◌≤◌, ℕ, zero, suc, Bool, true, false, not, ◌&&◌, cond, nat_eq, List, [], ◌∷◌, ◌++◌, refl, ap, sym, ◌∙◌, length, take, drop, arith, subst}
use Rattle.std.proofs.lemmas.Bool.{cond_both}
use Rattle.std.proofs.lemmas.Bool.Decides.{nat_tests}
use Rattle.pm_recipe.specs.Bytes.{begins_with}
use Rattle.pm_bytes.specs.Alphabet.{NEWLINE}
use Rattle.pm_recipe.specs.Places.{Places, joins_before, place_after, reach_of, far, text_after}
use Rattle.pm_recipe.specs.declared.runs.Run.TheVariants as Run
use Rattle.pm_recipe.specs.declared.runs.UpTo.TheVariants as UpTo
use Rattle.pm_recipe.specs.Runs.{run_places, up_to_places}
use Rattle.pm_recipe.specs.Spans.{newlines}
use Rattle.pm_recipe.specs.Words.{IsLine, AreBlanks, IsName, AreJoins, IsRest}
use Rattle.pm_recipe.proofs.RunLengths.{run}

pub equal : (a b : ℕ) → nat_eq a b ≡ true → a ≡ b
equal a b h = grind (arith, nat_tests)

pub and-left : (a b : Bool) → (a && b) ≡ true → a ≡ true
and-left true b h = refl
and-left false b h = h

pub and-right : (a b : Bool) → (a && b) ≡ true → b ≡ true
and-right true b h = h
and-right false b h = absurd (false-true h)
  where
    false-true : false ≡ true → ⊥
    false-true h = grind arith

-- how far readers come at a line, blanks, a name and joins
pub line-run : (text : List ℕ) → IsLine 0 (take (far run_places Run.Line text) text) (text_after run_places Run.Line text)
line-run text = run Run.Line 0 text

pub blanks-run : (text : List ℕ) → AreBlanks 0 (take (far run_places Run.Blanks text) text) (text_after run_places Run.Blanks text)
blanks-run text = run Run.Blanks 0 text

pub name-run : (text : List ℕ) → IsName (take (far run_places Run.Name text) text) (text_after run_places Run.Name text)
name-run text = run Run.Name 0 text

pub joins-run : (text : List ℕ) → AreJoins 0 (take (far run_places Run.Joins text) text) (text_after run_places Run.Joins text)
joins-run text = run Run.Joins 0 text

-- lists in two parts
abbrev pub none : List ℕ
none = []

pub take-nil : (n : ℕ) → take n none ≡ none
take-nil zero = refl
take-nil (suc n) = refl

pub take-add : (m n : ℕ) (xs : List ℕ) → take (m + n) xs ≡ take m xs ++ take n (drop m xs)
take-add zero n xs = let e : zero + n ≡ n = omega arith in ap (λ k. take k xs) e
take-add (suc m) n [] = take-nil (suc m + n) ∙ sym (take-nil n)
take-add (suc m) n (x ∷ xs) = let e : suc m + n ≡ suc (m + n) = omega arith in ap (λ k. take k (x ∷ xs)) e ∙ ap (λ ys. x ∷ ys) (take-add m n xs)

-- a text that begins with a byte
pub begins-cons : (wanted : ℕ) (text : List ℕ) → begins_with wanted text ≡ true → text ≡ wanted ∷ drop 1 text
begins-cons wanted [] h = absurd (no h)
  where
    no : false ≡ true → ⊥
    no h = grind arith
begins-cons wanted (byte ∷ bytes) h = ap (λ b. b ∷ bytes) (equal byte wanted h)

pub three : (Q : List ℕ → List ℕ → List ℕ → Type 0) (a b c d e f : List ℕ) → a ≡ d → b ≡ e → c ≡ f → Q a b c → Q d e f
three Q a b c d e f p q r h = subst (λ x. Q d e x) r (subst (λ x. Q d x c) q (subst (λ x. Q x b c) p h))

-- a comment's run
pub rest-run : (text : List ℕ) → IsRest (take (far up_to_places UpTo.Newline text) text) (text_after up_to_places UpTo.Newline text)
rest-run [] = record { inside = refl; ends = refl }
rest-run (byte ∷ bytes) = by (nat_eq byte NEWLINE) refl (rest-run bytes)
  where
    by : (b : Bool) → nat_eq byte NEWLINE ≡ b → IsRest (take (far up_to_places UpTo.Newline bytes) bytes) (text_after up_to_places UpTo.Newline bytes)
        → IsRest (take (cond b 0 (far up_to_places UpTo.Newline bytes + 1)) (byte ∷ bytes)) (drop (cond b 0 (far up_to_places UpTo.Newline bytes + 1)) (byte ∷ bytes))
    by true h rest = record { inside = refl; ends = h }
    by false h rest =
        let e : suc (far up_to_places UpTo.Newline bytes) ≡ far up_to_places UpTo.Newline bytes + 1 = omega arith in
        let P : ℕ → Type 0 = λ n. IsRest (take n (byte ∷ bytes)) (drop n (byte ∷ bytes)) in
        subst P e (record { inside = ap (λ b. cond b (newlines (take (far up_to_places UpTo.Newline bytes) bytes) + 1) (newlines (take (far up_to_places UpTo.Newline bytes) bytes))) h ∙ rest.inside; ends = rest.ends })

pub no : {A : Type 0} → false ≡ true → A
no h = absurd (grind arith)

-- a reader stays within the text
pub within : {Place : Type 0} (places : Places Place) (joined : Bool) (place : Place) (text : List ℕ) → reach_of places joined place text ≤ length text
within places joined place [] = omega arith
within places joined place (byte ∷ bytes) =
    let rest = within places (joins_before places place byte bytes && not joined) (place_after places joined place byte bytes) bytes in
    cond_both (not joined && not (joins_before places place byte bytes) && places.ends place byte) 0 _ (λ n. n ≤ length (byte ∷ bytes))
    (λ e. omega arith) (λ e. omega (arith, rest))
