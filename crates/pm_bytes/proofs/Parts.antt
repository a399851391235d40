-- A part of a part.
use Rattle.std.proofs.Common.{◌≡◌, ℕ, ◌+◌, ◌-◌, ◌≤◌, ◌++◌, List, take, drop, length, sym, ◌∙◌, ap, arith, take-add}
use Rattle.std.proofs.lemmas.List.{take-take, drop-drop, drop-take}

-- it is the part of the whole that begins so much further
pub part_of_part : (xs : List ℕ) (start end from to : ℕ) → start ≤ end → from ≤ to → to ≤ end - start →
    take ((start + to) - (start + from)) (drop (start + from) xs) ≡ take (to - from) (drop from (take (end - start) (drop start xs)))
part_of_part xs start end from to low order within =
    let rest = (end - start) - from in
    let wide : end - start ≡ from + rest = omega (arith, order, within) in
    let long : (start + to) - (start + from) ≡ to - from = omega arith in
    ap (λ n. take n (drop (start + from) xs)) long
    ∙ ap (λ l. take (to - from) l) (sym (drop-drop from start xs))
    ∙ sym (take-take (to - from) rest (drop from (drop start xs)) (omega (arith, order, within)))
    ∙ ap (λ l. take (to - from) l) (sym (drop-take from rest (drop start xs)))
    ∙ ap (λ n. take (to - from) (drop from (take n (drop start xs)))) (sym wide)

-- the part with the bytes that stand behind it
pub widened : (xs more : List ℕ) (start end : ℕ) → start ≤ end → take (length more) (drop end xs) ≡ more →
    take ((end + length more) - start) (drop start xs) ≡ take (end - start) (drop start xs) ++ more
widened xs more start end order behind =
    let mine = end - start in
    let count = length more in
    let long : (end + count) - start ≡ mine + count = omega (arith, order) in
    let place : start + mine ≡ end = omega (arith, order) in
    ap (λ n. take n (drop start xs)) long
    ∙ take-add mine count (drop start xs)
    ∙ ap (λ l. take mine (drop start xs) ++ l)
    (ap (λ l. take count l) (drop-drop mine start xs ∙ ap (λ n. drop n xs) place) ∙ behind)
