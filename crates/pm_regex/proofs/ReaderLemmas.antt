-- One token more of the reader.
use Rattle.std.proofs.Common.{◌≡◌, ℕ, ◌<◌, ◌≤◌, Bool, false, List, [], ◌∷◌, ◌++◌, length, Option, Some, None, refl, sym, ◌∙◌, subst, ap, arith, append_assoc, append-nil, length-append}
use Rattle.std.specs.Prelude.{is_some, option_map}
use Rattle.std.proofs.lemmas.List.{same_from_push}
use Rattle.pm_regex.specs.declared.op.Op.{Op}
use Rattle.pm_regex.specs.declared.op.Op.TheVariants as op
use Rattle.pm_regex.specs.declared.group.Group.{Group}
use Rattle.pm_regex.specs.declared.sign.Sign.TheVariants.{Open}
use Rattle.pm_regex.specs.Re.{Re, set}
use Rattle.pm_regex.specs.Tokens.{sign}
use Rattle.pm_regex.specs.Sets.{range_ops}
use Rattle.pm_regex.specs.Machine.{Frame, State, fresh, step}
use Rattle.pm_regex.specs.Postfix.{Stack, only, stack_after, stack_next}
use Rattle.pm_regex.specs.Groups.{GroupIs, GroupsAre, Ends}
use Rattle.pm_regex.specs.Reader.{LeftIs}

-- as many groups are noted as are open
pub groups_length : (gs : List Group) (fs : List Frame) → GroupsAre gs fs → length gs ≡ length fs
groups_length gs [] h = ap length h
groups_length gs (f ∷ fs) h = ap length h.2 ∙ length-append h.0 (h.1 ∷ []) ∙ (let e = groups_length h.0 fs h.4 in omega arith)

pub too_deep : (st : State) → 200 ≤ length st.outer → step st (sign Open) ≡ None
too_deep st h = grind (arith, h)

pub opens : (st : State) → length st.outer < 200 → step st (sign Open) ≡ Some (record { left = st.left; inner = fresh false; outer = st.inner ∷ st.outer })
opens st h = grind (arith, h)

-- the innermost of the groups around
pub record Innermost (rest : List Group) (g : Group) (outer : List Frame) : Type 0 where
  pub frame : Frame
  pub frames : List Frame
  pub are : outer ≡ frame ∷ frames
  pub group : GroupIs g frame
  pub around : GroupsAre rest frames

pub innermost : (gs rest : List Group) (g : Group) (outer : List Frame) → gs ≡ rest ++ g ∷ [] → GroupsAre gs outer → Innermost rest g outer
innermost gs rest g [] e h = absurd (omega (arith, length-append rest (g ∷ []), ap length (sym h ∙ e)))
innermost gs rest g (f ∷ fs) e h =
    let same = same_from_push h.0 rest h.1 g (sym h.2 ∙ e) in
    record {
      frame = f;
      frames = fs;
      are = refl;
      group = subst (λ x. GroupIs x f) same.1 h.3;
      around = subst (λ x. GroupsAre x fs) same.0 h.4;
    }

-- no groups around
pub none_around : (gs : List Group) (outer : List Frame) → length gs ≡ 0 → GroupsAre gs outer → outer ≡ []
none_around gs [] e h = refl
none_around gs (f ∷ fs) e h = absurd (omega (arith, e, groups_length gs (f ∷ fs) h))

pub none_left : {X : Type 0} → (l : Option X) (f : X → List Op) (o : Option Re) → is_some l ≡ false → LeftIs (option_map f l) o → o ≡ None
none_left None f None e h = refl
none_left None f (Some x) e h = absurd h
none_left (Some v) f o e h = cc

stack_append : (os ps : List Op) (es : Option Stack) → stack_after (os ++ ps) es ≡ stack_after ps (stack_after os es)
stack_append [] ps es = refl
stack_append (o ∷ os) ps es = stack_append os ps (stack_next es o)

abbrev waiting : List Re → List (ℕ × ℕ) → Option Stack
waiting es rs = Some (rs, es)

stack_ranges : (qs rs : List (ℕ × ℕ)) (es : List Re) → stack_after (range_ops rs) (waiting es qs) ≡ waiting es (qs ++ rs)
stack_ranges qs [] es = ap (waiting es) (sym (append-nil qs))
stack_ranges qs (r ∷ rs) es = stack_ranges (qs ++ r ∷ []) rs es ∙ ap (waiting es) (append_assoc qs (r ∷ []) rs)

-- the operators of a bracket expression put it on top
pub stack_set : (old new : List Op) (negated : Bool) (rs : List (ℕ × ℕ)) (es : List Re) → new ≡ (old ++ range_ops rs) ++ op.Set negated ∷ [] →
    stack_after old (only []) ≡ only es → stack_after new (only []) ≡ only (set negated rs ∷ es)
stack_set old new negated rs es e h =
    ap (λ z. stack_after z (only [])) e ∙ stack_append (old ++ range_ops rs) (op.Set negated ∷ []) (only [])
    ∙ ap (λ z. stack_next z (op.Set negated)) (stack_append old (range_ops rs) (only []) ∙ ap (λ z. stack_after (range_ops rs) z) h ∙ stack_ranges [] rs es)

-- with no group around, the operators spell the expression
pub ends_alone : (ops : List Op) (e : Re) (outer : List Frame) → outer ≡ [] → Ends ops e outer → stack_after ops (only []) ≡ only (e ∷ [])
ends_alone ops e outer none h = subst (λ fs. Ends ops e fs) none h
