-- What the operators written so far stand for, in the open groups.
use Rattle.std.specs.Prelude.{◌≡◌, List, [], ◌∷◌, ◌++◌, Option, Some, None, is_some}
use Rattle.pm_regex.specs.declared.op.Op.{Op}
use Rattle.pm_regex.specs.declared.group.Group.{Group}
use Rattle.pm_regex.specs.Re.{Re}
use Rattle.pm_regex.specs.Machine.{Frame, closed_branch}
use Rattle.pm_regex.specs.Postfix.{only, stack_after}

-- this expression on top, where there is one
abbrev pub put : Option Re → List Re → List Re
put None es = es
put (Some e) es = e ∷ es

-- the expressions of the groups around the innermost: the last piece of each is joined, since the inner group comes after it
abbrev pub outer_stack : List Frame → List Re
outer_stack [] = []
outer_stack (f ∷ fs) = closed_branch f.before f.last ∷ put f.bars (outer_stack fs)

-- what is noted of a group is so
abbrev pub GroupIs : Group → Frame → Type 0
GroupIs g f = (g.has_bars ≡ is_some f.bars) × (g.has_last ≡ is_some f.last) × (g.after_cut ≡ f.cut)

-- the same of the groups around it, of which the innermost is noted last
abbrev pub GroupsAre : List Group → List Frame → Type 0
GroupsAre gs [] = gs ≡ []
GroupsAre gs (f ∷ fs) = (rest : List Group) × (g : Group) × (gs ≡ rest ++ g ∷ []) × GroupIs g f × GroupsAre rest fs

-- the operators give the innermost group's parts, on top of the groups around it
pub record Shows (ops : List Op) (g : Group) (f : Frame) (fs : List Frame) : Type 0 where
  pub stack : stack_after ops (only []) ≡ only (put f.last (f.before ∷ put f.bars (outer_stack fs)))
  pub group : GroupIs g f

-- its last piece is joined to those before it
abbrev pub Joined : List Op → Frame → List Frame → Type 0
Joined ops f fs = stack_after ops (only []) ≡ only (outer_stack (f ∷ fs))

-- the operators give the expression, on top of the groups around it
abbrev pub Ends : List Op → Re → List Frame → Type 0
Ends ops e fs = stack_after ops (only []) ≡ only (e ∷ outer_stack fs)

-- whatever the first operators show, the others show the same group with that change
abbrev pub Changes : List Op → Group → List Op → Group → (Frame → Frame) → Type 0
Changes old before new after change = (f : Frame) (fs : List Frame) → Shows old before f fs → Shows new after (change f) fs
