-- What the operators of an expression spell.
use Rattle.std.proofs.Common.{◌≡◌, ℕ, true, List, [], ◌∷◌, Option, Some, None, refl}
use Rattle.pm_regex.specs.declared.op.Op.{Op}
use Rattle.pm_regex.specs.Re.{Re}
use Rattle.pm_regex.specs.Postfix.{Stack, only, stack_after, is_one, is_single, first_of, top_of, tree_of, is_spelling, is_left_spelling, Spells}

one_left : (rs : List (ℕ × ℕ)) (es : List Re) → is_one rs es ≡ true → Some (rs, es) ≡ only (first_of es ∷ [])
one_left [] [] is = cc
one_left [] (e ∷ []) is = refl
one_left [] (e ∷ f ∷ es) is = cc
one_left (r ∷ rs) [] is = cc
one_left (r ∷ rs) (e ∷ []) is = cc
one_left (r ∷ rs) (e ∷ f ∷ es) is = cc

single : (s : Option Stack) → is_single s ≡ true → s ≡ only (top_of s ∷ [])
single None is = cc
single (Some s) is = one_left s.0 s.1 is

pub spelling : (os : List Op) → is_spelling os ≡ true → Spells os (tree_of os)
spelling os is = single (stack_after os (only [])) is

pub left_spelling : (o : Option (List Op)) (os : List Op) → o ≡ Some os → is_left_spelling o ≡ true → Spells os (tree_of os)
left_spelling None os e is = cc
left_spelling (Some x) os e is = let same : x ≡ os = cc in rw (← same) (spelling x is)
