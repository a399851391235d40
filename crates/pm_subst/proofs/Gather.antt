-- One more mark, and one more token.
use Rattle.std.proofs.Common.{◌≡◌, ◌<◌, ◌+◌, ℕ, suc, zero, Bool, List, [], ◌∷◌, refl, ap, ◌∙◌, map, length, get_or, take, drop}
use Rattle.std.proofs.lemmas.List.{take_more, map-append}
use Rattle.std.proofs.lemmas.List.Sums.{fold-append}
use Rattle.pm_subst.specs.declared.kinds.Mode.{Mode}
use Rattle.pm_subst.specs.declared.kinds.Frame.{Frame}
use Rattle.pm_subst.specs.Fields.{Fields, Element, gathered, with_element}
use Rattle.pm_subst.specs.Tokens.{tokens}

pub gathered-more : (splits : Bool) (fields : Fields) (f : ℕ → Element) (xs : List ℕ) (i : ℕ) → i < length xs
    → gathered splits fields (map f (take (i + 1) xs)) ≡ with_element splits (gathered splits fields (map f (take i xs))) (f (get_or xs i 0))
gathered-more splits fields f xs i h =
    ap (λ ys. gathered splits fields (map f ys)) (take_more xs i 0 h)
    ∙ ap (gathered splits fields) (map-append f (take i xs) (get_or xs i 0 ∷ []))
    ∙ fold-append (with_element splits) fields (map f (take i xs)) (f (get_or xs i 0) ∷ [])

-- bytes that are passed over give no token
pub tokens-drop : (mode : Mode) (skip : ℕ) (frames : List Frame) (fresh : Bool) (text : List ℕ)
    → tokens mode skip frames fresh text ≡ tokens mode zero frames fresh (drop skip text)
tokens-drop mode zero frames fresh text = refl
tokens-drop mode (suc skip) frames fresh [] = refl
tokens-drop mode (suc skip) frames fresh (byte ∷ bytes) = tokens-drop mode skip frames fresh bytes
