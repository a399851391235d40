-- The operators of an expression in postfix order.
use Rattle.std.specs.Prelude.{◌≡◌, ℕ, Bool, true, false, List, [], ◌∷◌, ◌++◌, Option, Some, None, option_map}
use Rattle.pm_regex.specs.declared.op.Op.{Op}
use Rattle.pm_regex.specs.declared.op.Op.TheVariants as op
use Rattle.pm_regex.specs.Re.{Re, nothing, one, set, seq, either, times, Whole}

-- what operators leave: ranges that wait for their bracket expression, and the expressions so far, the newest first
abbrev pub Stack : Type 0
Stack = List (ℕ × ℕ) × List Re

-- no ranges wait
abbrev pub only : List Re → Option Stack
only es = Some ([], es)

-- one more operator
abbrev pub push_op : Op → List (ℕ × ℕ) → List Re → Option Stack
push_op op.Nothing rs es = Some (rs, nothing ∷ es)
push_op (op.One a) rs es = Some (rs, one a ∷ es)
push_op (op.Range a b) rs es = Some (rs ++ (a, b) ∷ [], es)
push_op (op.Set negated) rs es = Some ([], set negated rs ∷ es)
push_op op.Seq rs (b ∷ a ∷ es) = Some (rs, seq a b ∷ es)
push_op op.Either rs (b ∷ a ∷ es) = Some (rs, either a b ∷ es)
push_op (op.Repeat t) rs (a ∷ es) = Some (rs, times t a ∷ es)
push_op _ _ _ = None

-- the same where the operators before it have their operands
abbrev pub stack_next : Option Stack → Op → Option Stack
stack_next None o = None
stack_next (Some s) o = push_op o s.0 s.1

-- what these operators leave
abbrev pub stack_after : List Op → Option Stack → Option Stack
stack_after [] s = s
stack_after (o ∷ os) s = stack_after os (stack_next s o)

-- the operators spell this expression
abbrev pub Spells : List Op → Re → Type 0
Spells os e = stack_after os (only []) ≡ only (e ∷ [])

-- one expression is left, and no ranges wait
abbrev pub is_one : List (ℕ × ℕ) → List Re → Bool
is_one [] (e ∷ []) = true
is_one _ _ = false

-- the same where all operators have their operands
abbrev pub is_single : Option Stack → Bool
is_single None = false
is_single (Some s) = is_one s.0 s.1

-- whether the operators spell an expression
abbrev pub is_spelling : List Op → Bool
is_spelling os = is_single (stack_after os (only []))

-- the newest expression
abbrev pub first_of : List Re → Re
first_of [] = nothing
first_of (e ∷ es) = e

-- the same where all operators have their operands
abbrev pub top_of : Option Stack → Re
top_of None = nothing
top_of (Some s) = first_of s.1

-- the expression that the operators spell
abbrev pub tree_of : List Op → Re
tree_of os = top_of (stack_after os (only []))

-- the same left of the cut, where there is one
abbrev pub is_left_spelling : Option (List Op) → Bool
is_left_spelling None = true
is_left_spelling (Some os) = is_spelling os

-- the expression that both lists of operators spell
abbrev pub whole_of : Option (List Op) → List Op → Whole
whole_of l r = record { left = option_map tree_of l; right = tree_of r }
