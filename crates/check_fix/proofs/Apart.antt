-- Changes that are apart, and the text that they make.
use Rattle.std.proofs.Common.{ℕ, Bool, true, false, ◌+◌, ◌-◌, ◌≤◌, ◌≡◌, List, [], ◌∷◌, ◌++◌, length, take, drop, refl, arith, min, ap, sym, ◌∙◌, append_assoc, cond, nat_le, ◌&&◌, take-take, length-take}
use Rattle.std.proofs.lemmas.Bool.{false≢true}
use Rattle.std.proofs.lemmas.Bool.Decides.{nat_tests}
use Rattle.std.proofs.lemmas.List.{take-append-le, length-take-le, drop-append-le, drop-take}
use Rattle.check_fix.specs.Changes.{AreApart, chosen, change_of, fits, rewritten}
use Rattle.check_fix.specs.declared.changes.Change.{Change}
use Rattle.check_fix.specs.declared.edits.Edit.{Edit}

-- texts that begin alike are alike up to an earlier place, too
alike : (place far : ℕ) (one other : List ℕ) → place ≤ far → take far one ≡ take far other → take place one ≡ take place other
alike place far one other h e =
    sym (take-take place far one h) ∙ (ap (λ (front : List ℕ). take place front) e ∙ take-take place far other h)

-- and the other is as long up to there
reaches : (far : ℕ) (one other : List ℕ) → far ≤ length other → take far one ≡ take far other → far ≤ length one
reaches far one other h e =
    let k : min far (length one) ≡ min far (length other) =
    sym (length-take far one) ∙ (ap (λ (front : List ℕ). length front) e ∙ length-take far other) in
    omega (arith, h, k)

-- a first part of a text that begins with a longer first part of another
front_of_front : (place first : ℕ) (text bytes rest : List ℕ) → place ≤ first → first ≤ length text
    → take place ((take first text ++ bytes) ++ rest) ≡ take place text
front_of_front place first text bytes rest h k =
    let long : place ≤ length (take first text) = omega (arith, h, length-take-le first text k) in
    ap (λ (all : List ℕ). take place all) (append_assoc (take first text) bytes rest)
    ∙ (take-append-le place (take first text) (bytes ++ rest) long ∙ take-take place first text h)

-- before the first change the text stays
pub front_stays : (place : ℕ) (changes : List Change) (text : List ℕ) → place ≤ length text → AreApart place (length text) changes
    → take place (rewritten changes text) ≡ take place text
front_stays place [] text _ _ = refl
front_stays place (change ∷ changes) text within (low, (high, later)) =
    let same : take (change.first + change.count) (rewritten changes text) ≡ take (change.first + change.count) text =
    front_stays (change.first + change.count) changes text high later in
    let long : change.first + change.count ≤ length (rewritten changes text) = reaches _ _ _ high same in
    front_of_front place change.first (rewritten changes text) change.bytes
    (drop (change.first + change.count) (rewritten changes text)) low (omega (arith, long))
    ∙ alike place (change.first + change.count) (rewritten changes text) text (omega (arith, low)) same

-- a part of a text
cut : (from first : ℕ) (text : List ℕ) → from ≤ first → drop from (take first text) ≡ take (first - from) (drop from text)
cut from first text h =
    let e : first ≡ from + (first - from) = omega (arith, h) in
    ap (λ (n : ℕ). drop from (take n text)) e ∙ drop-take from (first - from) text

-- what is written from a place on: up to the next change the text, then its bytes
pub next_written : (from : ℕ) (change : Change) (changes : List Change) (text : List ℕ)
    → AreApart from (length text) (change ∷ changes)
    → drop from (rewritten (change ∷ changes) text)
    ≡ take (change.first - from) (drop from text)
    ++ (change.bytes ++ drop (change.first + change.count) (rewritten changes text))
next_written from change changes text (low, (high, later)) =
    let rest : List ℕ = drop (change.first + change.count) (rewritten changes text) in
    let same : take (change.first + change.count) (rewritten changes text) ≡ take (change.first + change.count) text =
    front_stays (change.first + change.count) changes text high later in
    let front : take change.first (rewritten changes text) ≡ take change.first text =
    alike change.first (change.first + change.count) _ _ (omega arith) same in
    let long : from ≤ length (take change.first text) =
    omega (arith, low, length-take-le change.first text (omega (arith, high))) in
    ap (λ (all : List ℕ). drop from ((all ++ change.bytes) ++ rest)) front
    ∙ (ap (λ (all : List ℕ). drop from all) (append_assoc (take change.first text) change.bytes rest)
    ∙ (drop-append-le from (take change.first text) (change.bytes ++ rest) long
    ∙ ap (λ (all : List ℕ). all ++ (change.bytes ++ rest)) (cut from change.first text low)))

and_true : (a b : Bool) → (a && b) ≡ true → (a ≡ true) × (b ≡ true)
and_true true b h = (refl, h)
and_true false b h = absurd (false≢true h)

le_of : (a b : ℕ) → nat_le a b ≡ true → a ≤ b
le_of a b h = grind (arith, nat_tests)

-- what is chosen is apart
pub chosen_apart : (place size : ℕ) (edits : List Edit) → AreApart place size (chosen place size edits)
chosen_apart place size [] = tt
chosen_apart place size (edit ∷ edits) = by (fits place size edit) refl (λ after. chosen_apart after size edits)
  where
    by : (b : Bool) → fits place size edit ≡ b → ((after : ℕ) → AreApart after size (chosen after size edits))
        → AreApart place size (cond b (change_of edit ∷ chosen ((edit.first + edit.place) + edit.count) size edits) (chosen place size edits))
    by true h later =
        let both = and_true (nat_le place (edit.first + edit.place)) (nat_le ((edit.first + edit.place) + edit.count) size) h in
        (le_of _ _ both.0, (le_of _ _ both.1, later ((edit.first + edit.place) + edit.count)))
    by false h later = later place

-- what was written, with the text up to the next change and its bytes, and what is still to be written
pub written_more : (new done all : List ℕ) (from : ℕ) (change : Change) (changes rest : List Change) (text : List ℕ)
    → AreApart from (length text) (change ∷ changes) → rest ≡ change ∷ changes
    → new ≡ done ++ (take (change.first - from) (drop from text) ++ change.bytes)
    → done ++ drop from (rewritten rest text) ≡ all
    → new ++ drop (change.first + change.count) (rewritten changes text) ≡ all
written_more new done all from change changes rest text apart e n w =
    let part : List ℕ = take (change.first - from) (drop from text) in
    let more : List ℕ = drop (change.first + change.count) (rewritten changes text) in
    ap (λ (front : List ℕ). front ++ more) n
    ∙ (append_assoc done (part ++ change.bytes) more
    ∙ (ap (λ (later : List ℕ). done ++ later) (append_assoc part change.bytes more ∙ sym (next_written from change changes text apart))
    ∙ (ap (λ (left : List Change). done ++ drop from (rewritten left text)) (sym e) ∙ w)))
