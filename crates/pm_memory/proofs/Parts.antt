-- The last part of a name, after the folder's name and a slash.
use Rattle.std.proofs.Common.{◌≡◌, ◌≢◌, ℕ, true, false, cond, not, ◌||◌, List, [], ◌∷◌, ◌++◌, Some, None, refl, sym, ap, ◌∙◌, nat_eq, true≢false}
use Rattle.std.specs.List.{list_any}
use Rattle.pm_host.specs.World.{is_part}
use Rattle.pm_memory.specs.Folders.{IsPartIn}

abbrev tail_of : List ℕ → List ℕ
tail_of [] = []
tail_of (x ∷ xs) = xs

-- after the same front stands the same
pub same_rest : (front a b : List ℕ) → front ++ a ≡ front ++ b → a ≡ b
same_rest [] a b e = e
same_rest (x ∷ xs) a b e = same_rest xs a b (ap tail_of e)

-- a slash stands in what is no part
pub part_or_slash : (bs : List ℕ) → is_part bs ≡ not (list_any (λ y. nat_eq y 47) bs)
part_or_slash [] = refl
part_or_slash (b ∷ bs) =
    elim (nat_eq b 47) as (λ t. cond t false (is_part bs) ≡ not (t || list_any (λ y. nat_eq y 47) bs)) [
      | true ↦ refl
      | false ↦ part_or_slash bs
    ]

-- another front
pub no_front : (folder name : List ℕ) → ((rest : List ℕ) → name ≢ folder ++ rest) → IsPartIn folder name None
no_front folder name other part is e = other (47 ∷ part) e

-- no slash after the front
pub no_slash : (folder name rest : List ℕ) → name ≡ folder ++ rest → ((part : List ℕ) → rest ≢ 47 ∷ part) → IsPartIn folder name None
no_slash folder name rest front other part is e = other part (same_rest folder rest (47 ∷ part) (sym front ∙ e))

-- another slash after the slash
pub no_part : (folder name rest part : List ℕ) → name ≡ folder ++ rest → rest ≡ 47 ∷ part → true ≡ list_any (λ y. nat_eq y 47) part → IsPartIn folder name None
no_part folder name rest part front slash more other is e =
    let same : 47 ∷ part ≡ 47 ∷ other = same_rest folder (47 ∷ part) (47 ∷ other) (ap (λ r. folder ++ r) (sym slash) ∙ sym front ∙ e) in
    true≢false (sym is ∙ part_or_slash other ∙ ap (λ p. not (list_any (λ y. nat_eq y 47) p)) (sym (ap tail_of same)) ∙ ap not (sym more))

-- a part
pub a_part : (folder name rest part : List ℕ) → name ≡ folder ++ rest → rest ≡ 47 ∷ part → false ≡ list_any (λ y. nat_eq y 47) part → IsPartIn folder name (Some part)
a_part folder name rest part front slash none = (front ∙ ap (λ r. folder ++ r) slash, part_or_slash part ∙ ap not (sym none))
