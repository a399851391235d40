-- One operator more of a group.
use Rattle.std.proofs.Common.{◌≡◌, true, false, List, [], ◌∷◌, ◌++◌, Option, Some, None, refl, sym, ◌∙◌, ap}
use Rattle.std.specs.Prelude.{is_some}
use Rattle.pm_regex.specs.declared.op.Times.{Times}
use Rattle.pm_regex.specs.declared.op.Op.{Op}
use Rattle.pm_regex.specs.declared.op.Op.TheVariants as op
use Rattle.pm_regex.specs.declared.group.Group.{Group}
use Rattle.pm_regex.specs.Re.{Re}
use Rattle.pm_regex.specs.Machine.{Frame, closed_branch, joined, expr_of, repeated_frame}
use Rattle.pm_regex.specs.Postfix.{Stack, only, push_op, stack_next, stack_after}
use Rattle.pm_regex.specs.Groups.{put, outer_stack, GroupIs, Shows, Ends, Joined}

pub stack_push : (os : List Op) (o : Op) (es : Option Stack) → stack_after (os ++ o ∷ []) es ≡ stack_next (stack_after os es) o
stack_push [] o es = refl
stack_push (p ∷ os) o es = stack_push os o (stack_next es p)

pub pushed : (old new : List Op) (o : Op) (es : List Re) → new ≡ old ++ o ∷ [] → stack_after old (only []) ≡ only es → stack_after new (only []) ≡ push_op o [] es
pushed old new o es e h = ap (λ x. stack_after x (only [])) e ∙ stack_push old o (only []) ∙ ap (λ x. stack_next x o) h

join_yes : (b : Re) (l : Option Re) (es : List Re) → true ≡ is_some l → push_op op.Seq [] (put l (b ∷ es)) ≡ only (closed_branch b l ∷ es)
join_yes b None es e = cc
join_yes b (Some x) es e = refl

pub joins : (old new : List Op) (g : Group) (f : Frame) (fs : List Frame) → g.has_last ≡ true → new ≡ old ++ op.Seq ∷ [] → Shows old g f fs → Joined new f fs
joins old new g f fs has e s = pushed old new op.Seq _ e s.stack ∙ join_yes f.before f.last (put f.bars (outer_stack fs)) (sym has ∙ (s.group).1)

end_yes : (b : Option Re) (e : Re) (es : List Re) → true ≡ is_some b → push_op op.Either [] (e ∷ put b es) ≡ only (joined b e ∷ es)
end_yes None e es h = cc
end_yes (Some x) e es h = refl

end_no : (b : Option Re) (e : Re) (es : List Re) → false ≡ is_some b → e ∷ put b es ≡ joined b e ∷ es
end_no None e es h = refl
end_no (Some x) e es h = cc

pub ends : (old new : List Op) (g : Group) (f : Frame) (fs : List Frame) → g.has_bars ≡ true → new ≡ old ++ op.Either ∷ [] → GroupIs g f → Joined old f fs → Ends new (expr_of f) fs
ends old new g f fs has e is j = pushed old new op.Either _ e j ∙ end_yes f.bars (closed_branch f.before f.last) (outer_stack fs) (sym has ∙ is.0)

pub ends_not : (ops : List Op) (g : Group) (f : Frame) (fs : List Frame) → g.has_bars ≡ false → GroupIs g f → Joined ops f fs → Ends ops (expr_of f) fs
ends_not ops g f fs has is j = j ∙ ap only (end_no f.bars (closed_branch f.before f.last) (outer_stack fs) (sym has ∙ is.0))

repeat_stack : (f : Frame) (t : Times) (l : Option Re) (es : List Re) → true ≡ is_some l →
    push_op (op.Repeat t) [] (put l (f.before ∷ es)) ≡ only (put (repeated_frame f t l).last ((repeated_frame f t l).before ∷ es))
repeat_stack f t None es h = cc
repeat_stack f t (Some p) es h = refl

same_bars : (f : Frame) (t : Times) (l : Option Re) → true ≡ is_some l → f.bars ≡ (repeated_frame f t l).bars
same_bars f t None h = cc
same_bars f t (Some p) h = refl

repeat_group : (g : Group) (f : Frame) (t : Times) (l : Option Re) → g.has_last ≡ true → true ≡ is_some l → GroupIs g f → GroupIs g (repeated_frame f t l)
repeat_group g f t None has h is = cc
repeat_group g f t (Some p) has h is = (is.0, has, is.2)

pub repeats : (old new : List Op) (g : Group) (f : Frame) (fs : List Frame) (t : Times) → g.has_last ≡ true → new ≡ old ++ op.Repeat t ∷ [] → Shows old g f fs →
    Shows new g (repeated_frame f t f.last) fs
repeats old new g f fs t has e s =
    let some = sym has ∙ (s.group).1 in
    record {
      stack = pushed old new (op.Repeat t) _ e s.stack ∙ repeat_stack f t f.last (put f.bars (outer_stack fs)) some
          ∙ ap (λ b. only (put (repeated_frame f t f.last).last ((repeated_frame f t f.last).before ∷ put b (outer_stack fs)))) (same_bars f t f.last some);
      group = repeat_group g f t f.last has some s.group;
    }
