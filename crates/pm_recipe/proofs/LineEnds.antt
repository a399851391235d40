-- The first newline of a text, and how many there are.
use Rattle.std.proofs.Common.{◌≡◌, ◌≤◌, ◌<◌, ◌+◌, ◌==◌, ℕ, Bool, true, false, ◌||◌, cond, nat_eq, List, [], ◌∷◌, ◌++◌, length, take, drop, get_or, refl, sym, ap, ◌∙◌, subst, arith, append-nil}
use Rattle.std.specs.List.{list_any}
use Rattle.std.proofs.lemmas.List.Folds.{list_any_none}
use Rattle.std.proofs.lemmas.List.Elements.{All-from_get_or}
use Rattle.std.proofs.lemmas.List.{get_or-take, take-append-drop, drop_more, length-take-le, take_all}
use Rattle.std.proofs.lemmas.Bool.Decides.{nat_tests}
use Rattle.memchr.specs.Find.{Nowhere, Passes, is_byte}
use Rattle.pm_bytes.specs.Alphabet.{NEWLINE}
use Rattle.pm_recipe.specs.Places.{far}
use Rattle.pm_recipe.specs.declared.runs.UpTo.TheVariants as UpTo
use Rattle.pm_recipe.specs.Runs.{up_to_places}
use Rattle.pm_recipe.specs.Front.{ends_line}
use Rattle.pm_recipe.specs.Spans.{newlines}
use Rattle.pm_recipe.specs.Words.{IsRest}
use Rattle.pm_recipe.proofs.WordRuns.{rest-length, true-false}

not_true : (b : Bool) → (b ≡ true → ⊥) → b ≡ false
not_true true h = absurd (h refl)
not_true false h = refl

is_newline : (byte : ℕ) → (byte == 10) ≡ true → byte ≡ 10
is_newline byte h = grind arith

other : (byte : ℕ) → (byte == 10) ≡ false → nat_eq byte NEWLINE ≡ false
other byte h = grind (arith, nat_tests)

-- no byte before the place is a newline
lacks : (text : List ℕ) (k : ℕ) → k ≤ length text → Nowhere (Passes (is_byte 10) text) 0 k → list_any (λ b. b == 10) (take k text) ≡ false
lacks text k within nowhere =
    list_any_none (λ b. b == 10) (take k text) (All-from_get_or (λ b. (b == 10) ≡ false) (take k text) 0 (λ i less.
    let below : i < k = subst (λ n. i < n) (length-take-le k text within) less in
    subst (λ b. (b == 10) ≡ false) (sym (get_or-take k text i 0 below)) (not_true (get_or text i 0 == 10) (nowhere i (omega arith) below))))

none-of : (text : List ℕ) → list_any (λ b. b == 10) text ≡ false → newlines text ≡ 0
none-of [] h = refl
none-of (byte ∷ bytes) h = by (byte == 10) refl (none-of bytes)
  where
    by : (b : Bool) → (byte == 10) ≡ b → (list_any (λ b. b == 10) bytes ≡ false → newlines bytes ≡ 0) → newlines (byte ∷ bytes) ≡ 0
    by true e more = true-false (sym (ap (λ b. b || list_any (λ b. b == 10) bytes) e) ∙ h)
    by false e more =
        let rest : list_any (λ b. b == 10) bytes ≡ false = sym (ap (λ b. b || list_any (λ b. b == 10) bytes) e) ∙ h in
        ap (λ b. cond b (newlines bytes + 1) (newlines bytes)) (other byte e) ∙ more rest

pub none-before : (text : List ℕ) (k : ℕ) → k ≤ length text → Nowhere (Passes (is_byte 10) text) 0 k → newlines (take k text) ≡ 0
none-before text k within nowhere = none-of (take k text) (lacks text k within nowhere)

-- a newline at the place
pub newline-there : (text : List ℕ) (k : ℕ) → k < length text → Passes (is_byte 10) text k → drop k text ≡ 10 ∷ drop (k + 1) text
newline-there text k less here = drop_more text k 0 less ∙ ap (λ b. b ∷ drop (k + 1) text) (is_newline (get_or text k 0) here)

pub comment-ends : (text : List ℕ) (k : ℕ) → k < length text → Nowhere (Passes (is_byte 10) text) 0 k → Passes (is_byte 10) text k → far up_to_places UpTo.Newline text ≡ k
comment-ends text k less nowhere here =
    let within : k ≤ length text = omega arith in
    let rest : IsRest (take k text) (drop k text) = record {
      inside = none-before text k within nowhere;
      ends = ap ends_line (newline-there text k less here);
    } in
    sym (ap (far up_to_places UpTo.Newline) (take-append-drop k text)) ∙ rest-length (take k text) (drop k text) rest ∙ length-take-le k text within

pub comment-endless : (text : List ℕ) → Nowhere (Passes (is_byte 10) text) 0 (length text) → far up_to_places UpTo.Newline text ≡ length text
comment-endless text nowhere =
    let within : length text ≤ length text = omega arith in
    let inside : newlines text ≡ 0 = ap newlines (sym (take_all (length text) text within)) ∙ none-before text (length text) within nowhere in
    let rest : IsRest (text) [] = record { inside = inside; ends = refl } in
    sym (ap (far up_to_places UpTo.Newline) (append-nil text)) ∙ rest-length text [] rest

-- how many newlines there are
newlines-append : (xs ys : List ℕ) → newlines (xs ++ ys) ≡ newlines xs + newlines ys
newlines-append [] ys = omega arith
newlines-append (x ∷ xs) ys = by (nat_eq x NEWLINE) (newlines-append xs ys)
  where
    by : (b : Bool) → newlines (xs ++ ys) ≡ newlines xs + newlines ys
        → cond b (newlines (xs ++ ys) + 1) (newlines (xs ++ ys)) ≡ cond b (newlines xs + 1) (newlines xs) + newlines ys
    by true e = omega (arith, e)
    by false e = e

pub one-newline : (text : List ℕ) (k : ℕ) → k < length text → Nowhere (Passes (is_byte 10) text) 0 k → Passes (is_byte 10) text k
    → newlines text ≡ 1 + newlines (drop (k + 1) text)
one-newline text k less nowhere here =
    let within : k ≤ length text = omega arith in
    ap newlines (sym (take-append-drop k text)) ∙ newlines-append (take k text) (drop k text)
    ∙ omega (arith, none-before text k within nowhere, ap newlines (newline-there text k less here))

pub no-newline : (text : List ℕ) → Nowhere (Passes (is_byte 10) text) 0 (length text) → newlines text ≡ 0
no-newline text nowhere =
    let within : length text ≤ length text = omega arith in
    ap newlines (sym (take_all (length text) text within)) ∙ none-before text (length text) within nowhere
