-- An expression is told apart by the operators that spell it.
use Rattle.std.specs.Prelude.{◌≡◌, ℕ, List, [], ◌∷◌, ◌++◌, Option, Some, None, option_map, refl}
use Rattle.std.specs.Coded.{Coded, code_by, coded_list, coded_option, coded×}
use Rattle.std.proofs.Common.{sym, ◌∙◌, ap, append_assoc}
use Rattle.pm_regex.specs.declared.op.Op.{Op}
use Rattle.pm_regex.specs.declared.op.Op.TheVariants as op
use Rattle.pm_regex.specs.Re.{Re, nothing, one, set, seq, either, times, Whole}
use Rattle.pm_regex.specs.Postfix.{Stack, only, stack_after, top_of, tree_of, whole_of}

-- the operators of ranges, before others
abbrev pub with_ranges : List (ℕ × ℕ) → List Op → List Op
with_ranges [] os = os
with_ranges (r ∷ rs) os = op.Range r.0 r.1 ∷ with_ranges rs os

-- the operators of e, before others
abbrev pub spelled : Re → List Op → List Op
spelled nothing os = op.Nothing ∷ os
spelled (one a) os = op.One a ∷ os
spelled (set negated rs) os = with_ranges rs (op.Set negated ∷ os)
spelled (seq a b) os = spelled a (spelled b (op.Seq ∷ os))
spelled (either a b) os = spelled a (spelled b (op.Either ∷ os))
spelled (times t a) os = spelled a (op.Repeat t ∷ os)

-- nothing after a list changes nothing
append_nil : (xs : List (ℕ × ℕ)) → xs ++ [] ≡ xs
append_nil [] = refl
append_nil (x ∷ xs) = ap (λ z. x ∷ z) (append_nil xs)

-- the stack after the other operators, with these ranges waiting
abbrev with_rest : List Re → List Op → List (ℕ × ℕ) → Option Stack
with_rest es os rs = stack_after os (Some (rs, es))

-- the operators of ranges leave them waiting
ranges_give : (qs rs : List (ℕ × ℕ)) (os : List Op) (es : List Re) →
    stack_after (with_ranges rs os) (Some (qs, es)) ≡ stack_after os (Some (qs ++ rs, es))
ranges_give qs [] os es = ap (with_rest es os) (sym (append_nil qs))
ranges_give qs (r ∷ rs) os es = ranges_give (qs ++ r ∷ []) rs os es ∙ ap (with_rest es os) (append_assoc qs (r ∷ []) rs)

-- the operators of an expression leave it on the stack
pub spelled_gives : (e : Re) (os : List Op) (es : List Re) → stack_after (spelled e os) (only es) ≡ stack_after os (only (e ∷ es))
spelled_gives nothing os es = refl
spelled_gives (one a) os es = refl
spelled_gives (set negated rs) os es = ranges_give [] rs (op.Set negated ∷ os) es
spelled_gives (seq a b) os es = spelled_gives a (spelled b (op.Seq ∷ os)) es ∙ spelled_gives b (op.Seq ∷ os) (a ∷ es)
spelled_gives (either a b) os es = spelled_gives a (spelled b (op.Either ∷ os)) es ∙ spelled_gives b (op.Either ∷ os) (a ∷ es)
spelled_gives (times t a) os es = spelled_gives a (op.Repeat t ∷ os) es

-- the operators of an expression stand for it
pub spelled_tree : (e : Re) → tree_of (spelled e []) ≡ e
spelled_tree e = ap top_of (spelled_gives e [] [])

-- the same of what stands left of a cut, where there is one
left_back : (o : Option Re) → option_map tree_of (option_map (λ e. spelled e []) o) ≡ o
left_back None = refl
left_back (Some e) = ap (λ x. Some x) (spelled_tree e)

-- the same of a whole expression
whole_back : (w : Whole) → whole_of (option_map (λ e. spelled e []) w.left) (spelled w.right []) ≡ w
whole_back w =
    ap (λ x. record { left = x; right = tree_of (spelled w.right []) }) (left_back w.left) ∙ ap (λ x. record { left = w.left; right = x }) (spelled_tree w.right)

-- two expressions with the same operators are the same
pub whole_code : Coded Op → Coded Whole
whole_code c =
    code_by (Option (List Op) × List Op) (coded× (coded_option (coded_list c)) (coded_list c))
    (λ w. (option_map (λ e. spelled e []) w.left, spelled w.right [])) (λ p. whole_of p.0 p.1) whole_back
