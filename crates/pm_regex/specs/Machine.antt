-- Reading token by token, with the open groups one upon the other. The reader is in step with it, and it reads what the
-- grammar spells; what a text means says nothing of it.
use Rattle.std.specs.Prelude.{Bool, true, false, List, [], ◌∷◌, length, nat_lt, Option, Some, None, if◌then◌else◌}
use Rattle.pm_regex.specs.declared.op.Atom.TheVariants.{Byte}
use Rattle.pm_regex.specs.declared.op.Times.{Times}
use Rattle.pm_regex.specs.declared.sign.Sign.TheVariants.{Open, Close, Bar, Cut, Edge, Repeat, One}
use Rattle.pm_regex.specs.Tokens.{Token, sign, bracket}
use Rattle.pm_regex.specs.Re.{Re, nothing, one, set, seq, either, times, Whole}
use Rattle.pm_regex.specs.Grammar.{Stand, behind, start_of, edge_atom, times_byte}

-- an open group: its finished branches, the pieces of this branch but the last, and the last
pub record Frame : Type 0 where
  pub cut : Bool
  pub bars : Option Re
  pub before : Re
  pub last : Option Re

-- what is left of the cut, and the open groups, the innermost first
pub record State : Type 0 where
  pub left : Option Re
  pub inner : Frame
  pub outer : List Frame

-- nothing is read of the group
abbrev pub fresh : Bool → Frame
fresh c = record { cut = c; bars = None; before = nothing; last = None }

-- whether this branch is directly after the cut
abbrev pub branch_cut : Bool → Option Re → Bool
branch_cut c None = c
branch_cut c (Some e) = false

-- where the next piece stands
abbrev pub stand_of : Bool → Option Re → Stand
stand_of c (Some p) = behind
stand_of c None = start_of c

-- the same of a group
abbrev pub next_stand : Frame → Stand
next_stand f = stand_of (branch_cut f.cut f.bars) f.last

-- the branch with its last piece
abbrev pub closed_branch : Re → Option Re → Re
closed_branch b None = b
closed_branch b (Some p) = seq b p

-- the frame with one piece more
abbrev pub with_piece : Frame → Re → Frame
with_piece f e = record f { before = closed_branch f.before f.last; last = Some e }

-- the finished branches and one more
abbrev pub joined : Option Re → Re → Re
joined None b = b
joined (Some e) b = either e b

-- the expression of the group so far
abbrev pub expr_of : Frame → Re
expr_of f = joined f.bars (closed_branch f.before f.last)

-- the frame after a bar
abbrev pub barred : Frame → Frame
barred f = record { cut = f.cut; bars = Some (expr_of f); before = nothing; last = None }

-- the innermost group becomes this
abbrev pub with_inner : State → Frame → State
with_inner st f = record st { inner = f }

-- a repeat after the last piece; at the front of a branch it is a byte
abbrev pub repeated_frame : Frame → Times → Option Re → Frame
repeated_frame f t None = with_piece f (one (Byte (times_byte t)))
repeated_frame f t (Some e) = record f { last = Some (times t e) }

-- the same in the innermost group
abbrev pub repeat_last : State → Times → Option Re → State
repeat_last st t l = with_inner st (repeated_frame st.inner t l)

-- at a `)` the group is a piece of the one around it
abbrev pub close_group : State → List Frame → Option State
close_group st [] = None
close_group st (f ∷ fs) = Some (record { left = st.left; inner = with_piece f (expr_of st.inner); outer = fs })

-- the cut stands once, and outside parentheses
abbrev pub cut_here : State → Option Re → List Frame → Option State
cut_here st None [] = Some (record { left = Some (expr_of st.inner); inner = fresh true; outer = [] })
cut_here st (Some l) fs = None
cut_here st None (f ∷ fs) = None

-- one token more, where it can stand
abbrev pub step : State → Token → Option State
step st (sign (One a)) = Some (with_inner st (with_piece st.inner (one a)))
step st (bracket n rs) = Some (with_inner st (with_piece st.inner (set n rs)))
step st (sign Edge) = Some (with_inner st (with_piece st.inner (one (edge_atom (next_stand st.inner)))))
step st (sign (Repeat t)) = Some (repeat_last st t st.inner.last)
step st (sign Bar) = Some (with_inner st (barred st.inner))
step st (sign Open) = if nat_lt (length st.outer) 200 then Some (record { left = st.left; inner = fresh false; outer = st.inner ∷ st.outer }) else None
step st (sign Close) = close_group st st.outer
step st (sign Cut) = cut_here st st.left st.outer

-- one token more, where the ones before could stand
abbrev pub run_next : Option State → Token → Option State
run_next None t = None
run_next (Some st) t = step st t

-- these tokens more
abbrev pub run : Option State → List Token → Option State
run st [] = st
run st (t ∷ ts) = run (run_next st t) ts

-- at the end no group is open
abbrev pub finished : State → List Frame → Option Whole
finished st [] = Some (record { left = st.left; right = expr_of st.inner })
finished st (f ∷ fs) = None

-- the same where all tokens could stand
abbrev pub finish : Option State → Option Whole
finish None = None
finish (Some st) = finished st st.outer

-- before the first token
abbrev pub opening : State
opening = record { left = None; inner = fresh false; outer = [] }

-- the expression of the tokens, where they have one
abbrev pub reading : List Token → Option Whole
reading ts = finish (run (Some opening) ts)
