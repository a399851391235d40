-- What is left of a text, and what stands before it.
use Rattle.std.proofs.Common.{◌≡◌, ◌+◌, ◌-◌, ◌<◌, ◌≤◌, ℕ, zero, suc, List, [], ◌∷◌, ◌++◌, refl, ap, sym, ◌∙◌, length, take, drop, arith, subst, length-drop}
use Rattle.std.proofs.lemmas.List.{take-append-drop, drop-drop, take_at, length-append}
use Rattle.pm_recipe.specs.Front.{before}

pub record IsLeft (left : List ℕ) (text : List ℕ) : Type 0 where
  pub count : ℕ
  pub left_is : left ≡ drop count text

pub left-self : (text : List ℕ) → IsLeft text text
left-self text = record { count = 0; left_is = refl }

pub left-drop : (n : ℕ) (left text : List ℕ) → IsLeft left text → IsLeft (drop n left) text
left-drop n left text h = record { count = h.count + n; left_is = ap (λ xs. drop n xs) h.left_is ∙ drop-drop n h.count text }

pub left-of : (n : ℕ) (text : List ℕ) → IsLeft (drop n text) text
left-of n text = record { count = n; left_is = refl }

pub left-more : (left : List ℕ) (byte : ℕ) (bytes : List ℕ) → IsLeft left bytes → IsLeft left (byte ∷ bytes)
left-more left byte bytes h = record { count = suc h.count; left_is = h.left_is }

pub left-on : (last left text : List ℕ) → IsLeft last left → IsLeft left text → IsLeft last text
left-on last left text h i = record { count = i.count + h.count; left_is = h.left_is ∙ ap (drop h.count) i.left_is ∙ drop-drop h.count i.count text }

pub shorter : (left text : List ℕ) → IsLeft left text → length left ≤ length text
shorter left text h = omega (arith, ap length h.left_is, length-drop h.count text)

drop-left : (n : ℕ) (text : List ℕ) → drop (length text - length (drop n text)) text ≡ drop n text
drop-left zero text = let e : length text - length text ≡ 0 = omega arith in ap (λ k. drop k text) e
drop-left (suc n) [] = refl
drop-left (suc n) (x ∷ xs) =
    let e : length (x ∷ xs) - length (drop n xs) ≡ suc (length xs - length (drop n xs)) = omega (arith, length-drop n xs) in
    ap (λ k. drop k (x ∷ xs)) e ∙ drop-left n xs

-- as many bytes stand before it
pub before-drop : (n : ℕ) (text : List ℕ) → before text (drop n text) ≡ take n text
before-drop zero text = let e : length text - length text ≡ 0 = omega arith in ap (λ k. take k text) e
before-drop (suc n) [] = refl
before-drop (suc n) (x ∷ xs) =
    let e : length (x ∷ xs) - length (drop n xs) ≡ suc (length xs - length (drop n xs)) = omega (arith, length-drop n xs) in
    ap (λ k. take k (x ∷ xs)) e ∙ ap (λ ys. x ∷ ys) (before-drop n xs)

pub before-left : (left text : List ℕ) → IsLeft left text → before text left ++ left ≡ text
before-left left text h =
    ap (λ xs. before text xs ++ xs) h.left_is ∙ ap (λ xs. xs ++ drop h.count text) (before-drop h.count text) ∙ take-append-drop h.count text

pub before-size : (left text : List ℕ) → IsLeft left text → length (before text left) + length left ≡ length text
before-size left text h = sym (length-append (before text left) left) ∙ ap length (before-left left text h)

pub before-at : (bytes last : List ℕ) → before (bytes ++ last) last ≡ bytes
before-at bytes last =
    let size : length (bytes ++ last) - length last ≡ length bytes = omega (arith, length-append bytes last) in take_at bytes last _ (sym size)

-- a first byte, and what is left of those after it
module _ (left : List ℕ) (byte : ℕ) (bytes : List ℕ) (h : IsLeft left bytes) where
  size : suc (length bytes - length left) ≡ length (byte ∷ bytes) - length left
  size = omega (arith, shorter left bytes h)

  pub take-before : byte ∷ take (length bytes - length left) bytes ≡ before (byte ∷ bytes) left
  take-before = ap (λ k. take k (byte ∷ bytes)) size

  pub drop-before : drop (length bytes - length left) bytes ≡ left
  drop-before = ap (λ xs. drop (length bytes - length xs) bytes) h.left_is ∙ drop-left h.count bytes ∙ sym h.left_is

  pub some-before : 0 < length (before (byte ∷ bytes) left)
  some-before = subst (λ xs. 0 < length xs) take-before (omega arith)
