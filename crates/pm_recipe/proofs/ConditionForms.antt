-- The condition that the code reads is the one that its line says.
use Rattle.std.proofs.Common.{◌≡◌, ◌+◌, ℕ, suc, Bool, true, false, ◌||◌, cond, nat_eq, List, [], ◌∷◌, ◌++◌, refl, ap, sym, ◌∙◌, length, take, drop, arith, subst}
use Rattle.std.specs.List.{list_any}
use Rattle.std.proofs.lemmas.List.{take-append-drop, take_at, drop_at}
use Rattle.std.proofs.lemmas.Bool.{cond-true, cond-false}
use Rattle.pm_bytes.specs.Alphabet.{DOLLAR}
use Rattle.pm_recipe.specs.Places.{far, text_after}
use Rattle.pm_recipe.specs.declared.runs.Run.TheVariants as Run
use Rattle.pm_recipe.specs.declared.runs.UpTo.TheVariants as UpTo
use Rattle.pm_recipe.specs.Runs.{run_places, up_to_places}
use Rattle.pm_recipe.specs.declared.tree.Condition.{Condition}
use Rattle.pm_recipe.specs.declared.tree.Weight.{Weight}
use Rattle.pm_recipe.specs.Joins.{unjoined, unindented, before_blanks}
use Rattle.pm_recipe.specs.Kept.{trimmed}
use Rattle.pm_recipe.specs.Weights.{weight_at, after_weight, is_expanded, dollar_line, condition_line, condition_of}
use Rattle.pm_recipe.specs.Conditions.{IsExpanded, IsTrimmed, ends_plain, IsDollarLine, IsConditionLine, IsCondition}
use Rattle.pm_recipe.specs.Conditions.IsConditionLine.{Plain, Dollar}
use Rattle.pm_recipe.proofs.Forms.{blanks-run}
use Rattle.pm_recipe.proofs.WordRuns.{true-false}
use Rattle.pm_recipe.proofs.Taking.{blanks-far}
use Rattle.pm_recipe.proofs.WeightForms.{weighed-once, weighed-some}
use Rattle.pm_recipe.proofs.LeadForms.{expanded-read, expanded-of}

-- without the blanks at both ends
trimmed-once : (text line : List ℕ) → IsTrimmed text line → line ≡ trimmed text
trimmed-once text line t =
    t.line_is ∙ sym (ap before_blanks (ap (text_after run_places Run.Blanks) t.text_is ∙ drop_at t.blanks t.rest _ (sym (blanks-far t.blanks t.rest t.apart))))

trimmed-some : (text : List ℕ) → IsTrimmed text (trimmed text)
trimmed-some text = record {
  blanks = take (far run_places Run.Blanks text) text;
  rest = text_after run_places Run.Blanks text;
  text_is = sym (take-append-drop (far run_places Run.Blanks text) text);
  apart = blanks-run text;
  line_is = refl;
}

-- up to the first `$`
dollar-far : (front last : List ℕ) → list_any (λ byte. nat_eq byte DOLLAR) front ≡ false → ends_plain last ≡ true → far up_to_places UpTo.Dollar (front ++ last) ≡ length front
dollar-far [] [] h e = refl
dollar-far [] (byte ∷ bytes) h e = ap (λ b. cond b 0 (far up_to_places UpTo.Dollar bytes + 1)) e
dollar-far (byte ∷ front) last h e =
    ap (λ b. cond b 0 (far up_to_places UpTo.Dollar (front ++ last) + 1)) (left (nat_eq byte DOLLAR) (list_any (λ byte. nat_eq byte DOLLAR) front) h)
    ∙ omega (arith, dollar-far front last (right (nat_eq byte DOLLAR) (list_any (λ byte. nat_eq byte DOLLAR) front) h) e)
  where
    left : (a b : Bool) → (a || b) ≡ false → a ≡ false
    left true b h = h
    left false b h = refl

    right : (a b : Bool) → (a || b) ≡ false → b ≡ false
    right true b h = true-false h
    right false b h = h

dollar-ends : (text : List ℕ) → ends_plain (text_after up_to_places UpTo.Dollar text) ≡ true
dollar-ends [] = refl
dollar-ends (byte ∷ bytes) = by (nat_eq byte DOLLAR) refl (dollar-ends bytes)
  where
    by : (b : Bool) → nat_eq byte DOLLAR ≡ b → ends_plain (text_after up_to_places UpTo.Dollar bytes) ≡ true → ends_plain (drop (cond b 0 (far up_to_places UpTo.Dollar bytes + 1)) (byte ∷ bytes)) ≡ true
    by true h more = h
    by false h more = let e : suc (far up_to_places UpTo.Dollar bytes) ≡ far up_to_places UpTo.Dollar bytes + 1 = omega arith in subst (λ n. ends_plain (drop n (byte ∷ bytes)) ≡ true) e more

dollar-plain : (text : List ℕ) → list_any (λ byte. nat_eq byte DOLLAR) (take (far up_to_places UpTo.Dollar text) text) ≡ false
dollar-plain [] = refl
dollar-plain (byte ∷ bytes) = by (nat_eq byte DOLLAR) refl (dollar-plain bytes)
  where
    by : (b : Bool) → nat_eq byte DOLLAR ≡ b → list_any (λ byte. nat_eq byte DOLLAR) (take (far up_to_places UpTo.Dollar bytes) bytes) ≡ false
        → list_any (λ byte. nat_eq byte DOLLAR) (take (cond b 0 (far up_to_places UpTo.Dollar bytes + 1)) (byte ∷ bytes)) ≡ false
    by true h more = refl
    by false h more =
        let e : suc (far up_to_places UpTo.Dollar bytes) ≡ far up_to_places UpTo.Dollar bytes + 1 = omega arith in
        subst (λ n. list_any (λ byte. nat_eq byte DOLLAR) (take n (byte ∷ bytes)) ≡ false) e
        (ap (λ b. b || list_any (λ byte. nat_eq byte DOLLAR) (take (far up_to_places UpTo.Dollar bytes) bytes)) h ∙ more)

dollar-once : (text line : List ℕ) → IsDollarLine text line → line ≡ dollar_line text
dollar-once text line d =
    let size = dollar-far d.front d.last d.plain d.ends in
    d.line_is ∙ sym (ap dollar_line d.text_is ∙ ap (λ xs. unindented xs ++ unjoined (text_after up_to_places UpTo.Dollar (d.front ++ d.last))) (take_at d.front d.last _ (sym size))
    ∙ ap (λ xs. unindented d.front ++ unjoined xs) (drop_at d.front d.last _ (sym size)))

dollar-some : (text : List ℕ) → IsDollarLine text (dollar_line text)
dollar-some text = record {
  front = take (far up_to_places UpTo.Dollar text) text;
  last = text_after up_to_places UpTo.Dollar text;
  text_is = sym (take-append-drop (far up_to_places UpTo.Dollar text) text);
  plain = dollar-plain text;
  ends = dollar-ends text;
  line_is = refl;
}

-- the line of a condition
abbrev expands : List ℕ → Bool
expands text = is_expanded (after_weight (trimmed (unindented text)))

not-expanded : (text : List ℕ) → (IsExpanded text → ⊥) → is_expanded text ≡ false
not-expanded text none = by (is_expanded text) refl
  where
    by : (b : Bool) → is_expanded text ≡ b → b ≡ false
    by true h = absurd (none (expanded-of text h))
    by false h = refl

line-once : (text line : List ℕ) → IsConditionLine text line → line ≡ condition_line text
line-once text line (Plain worth rest t w none) =
    let line_is = trimmed-once (unindented text) line t in
    let rest_is : rest ≡ after_weight (trimmed (unindented text)) = (weighed-once line worth rest w).rest_is ∙ ap after_weight line_is in
    line_is ∙ sym (cond-false (expands text) (trimmed (dollar_line text)) (trimmed (unindented text)) (ap is_expanded (sym rest_is) ∙ not-expanded rest none))
line-once text line (Dollar worth whole rest dollar t w e d u) =
    let whole_is = trimmed-once (unindented text) whole t in
    let rest_is : rest ≡ after_weight (trimmed (unindented text)) = (weighed-once whole worth rest w).rest_is ∙ ap after_weight whole_is in
    trimmed-once dollar line u ∙ ap trimmed (dollar-once text dollar d)
    ∙ sym (cond-true (expands text) (trimmed (dollar_line text)) (trimmed (unindented text)) (ap is_expanded (sym rest_is) ∙ expanded-read rest e))

line-some : (text : List ℕ) → IsConditionLine text (condition_line text)
line-some text = by (expands text) refl
  where
    by : (b : Bool) → expands text ≡ b → IsConditionLine text (condition_line text)
    by true h =
        let whole = trimmed (unindented text) in
        subst (λ xs. IsConditionLine text xs) (sym (cond-true (expands text) (trimmed (dollar_line text)) (trimmed (unindented text)) h))
        (Dollar (weight_at whole) whole (after_weight whole) (dollar_line text) (trimmed-some (unindented text)) (weighed-some whole) (expanded-of (after_weight whole) h)
        (dollar-some text) (trimmed-some (dollar_line text)))
    by false h =
        let whole = trimmed (unindented text) in
        subst (λ xs. IsConditionLine text xs) (sym (cond-false (expands text) (trimmed (dollar_line text)) (trimmed (unindented text)) h))
        (Plain (weight_at whole) (after_weight whole) (trimmed-some (unindented text)) (weighed-some whole) (λ e. true-false (sym (expanded-read (after_weight whole) e) ∙ h)))

abbrev condition_with : Weight → List ℕ → Condition
condition_with worth text = record { weight = worth; text = text }

pub condition-once : (text : List ℕ) (condition : Condition) → IsCondition text condition → condition ≡ condition_of text
condition-once text condition c =
    let r = weighed-once c.line condition.weight condition.text c.weighed in
    let line_is = line-once text c.line c.joined in
    ap (λ w. condition_with w condition.text) (r.worth_is ∙ ap weight_at line_is) ∙ ap (λ t. condition_with (weight_at (condition_line text)) t) (r.rest_is ∙ ap after_weight line_is)

pub condition-some : (text : List ℕ) → IsCondition text (condition_of text)
condition-some text = record { line = condition_line text; joined = line-some text; weighed = weighed-some (condition_line text) }
