-- Sets of states as lists.
use Rattle.std.proofs.Common.{◌≡◌, ◌⊎◌, ◌↔◌, ℕ, Bool, false, zero, suc, ◌+◌, ◌*◌, ◌-◌, ◌<◌, ◌≤◌, ◌==◌, ap, List, [], ◌∷◌, ◌++◌, Option, Some, length, length-append, set, refl, sym, ◌∙◌, subst, inl, inr, ⊎_elim, arith}
use Rattle.std.specs.Prelude.{slice_get, IfSome, None}
use Rattle.pm_match.specs.declared.build.Program.{Program}
use Rattle.pm_match.specs.Anywhere.{Embeds, NoneBefore}
use Rattle.std.proofs.lemmas.Option.{slice_get_within}
use Rattle.pm_match.specs.declared.step.Step.{Step}
use Rattle.pm_match.specs.declared.step.Step.TheVariants.{Stop, Go, Fork, Take, Range}
use Rattle.pm_match.specs.declared.labels.Label.{Label}
use Rattle.pm_match.specs.declared.sets.Span.{Span}
use Rattle.pm_match.specs.Automaton.{StepEdge, Edge}
use Rattle.pm_match.specs.Labels.{rank, Below, AreListed, AreHeld, TargetsBelow, InRange}
use Rattle.pm_match.specs.Finding.{Reach}
use Rattle.pm_match.specs.Forward.{IsReachedFrom, AreRunLabels, end_context}
use Rattle.pm_match.specs.Lists.{IsIn, Has, AreBounded, IsSetOf, AreReached, NoneGoesOn, IsLink, AreMet, IsAt, IsAfter}
use Rattle.pm_match.proofs.FindLemmas.{edge_place, reach_after}
use Rattle.pm_match.proofs.CacheLemmas.{got, put_get}
use Rattle.pm_match.proofs.LabelLemmas.{listed_below, label_of}
use Rattle.pm_match.proofs.RunLemmas.{one_if, step_same, cross_edge}

-- where the first m steps name only themselves, a run that begins at one of them stays among them
module _ (p : List Step) (m : ℕ) (named : (q : ℕ) (x : Step) → q < m → slice_get p q ≡ Some x → TargetsBelow x m) (area : List ℕ) where
  step_below : (x : Step) (i r k : ℕ) → TargetsBelow x m → StepEdge p x area i r k → r < m
  step_below Stop i r k t e = absurd e
  step_below (Go y) i r k t e = omega (arith, t, e.0)
  step_below (Fork y z) i r k t e = ⊎_elim (λ h. omega (arith, t.0, h)) (λ h. omega (arith, t.1, h)) e.0
  step_below (Take a y) i r k t e = omega (arith, t.0, e.0)
  step_below (Range a b) i r k t e = absurd e

  pub reach_below : (entry s : ℕ) → entry < m → (n q i : ℕ) → Reach p area entry s n q i → q < m
  reach_below entry s lt zero q i h = omega (arith, lt, h.0)
  reach_below entry s lt (suc n) q i h =
      let e = h.3 in
      step_below e.step h.1 q i (named h.0 e.step (reach_below entry s lt n h.0 h.1 h.2) e.is) e.edge

-- a run goes past each place after its start by an edge that reads the byte there
pub crosses_at : (p : List Step) (area : List ℕ) (entry s i : ℕ) → s ≤ i → (n q j : ℕ) → i < j → Reach p area entry s n q j →
    (r : ℕ) × (k : ℕ) × (x : ℕ) × Reach p area entry s k r i × Edge p area r i x (i + 1)
crosses_at p area entry s i low zero q j lt h = absurd (omega (arith, lt, low, h.1))
crosses_at p area entry s i low (suc n) q j lt h =
    let choice : (h.1 ≡ i) ⊎ (i < h.1) = ⊎_elim (λ e. inr (omega (arith, e, lt))) (λ e. grind (arith, e, lt)) (edge_place p area h.0 h.1 q j h.3) in
    ⊎_elim
    (λ here. ⊎_elim
    (λ e. absurd (omega (arith, e, here, lt)))
    (λ e.
    let next : j ≡ i + 1 = omega (arith, e, here) in (
      h.0,
      n,
      q,
      subst (λ k. Reach p area entry s n h.0 k) here h.2,
      subst (λ k. Edge p area h.0 i q k) next (subst (λ k. Edge p area h.0 k q j) here h.3),
    ))
    (edge_place p area h.0 h.1 q j h.3))
    (λ later. crosses_at p area entry s i low n h.0 h.1 later h.2)
    choice

-- the states that have labels of a run are the run's
pub labels_list : (p : List Step) (area : List ℕ) (entry i : ℕ) (labels : List (Option Label)) (states : List ℕ) → AreListed labels states → AreHeld labels states →
    AreRunLabels p area entry 0 i labels → AreReached p area entry i (IsIn states)
labels_list p area entry i labels states listed held ahead = record {
  sound = λ q h. let u = label_of labels q (held h.0 q h.1) in ahead.sound q (rank u.0) (record { label = u.0; is = u.1; small = omega arith });
  whole = λ q h. let b = ahead.whole q h.count h.reach in listed_below labels states listed q b.0 b.1;
}

-- a state of the list has a label
pub listed_label : (labels : List (Option Label)) (states : List ℕ) → AreHeld labels states → (q : ℕ) → ((v : ℕ) → Below labels q v → ⊥) → IsIn states q → ⊥
listed_label labels states held q none h = let u = label_of labels q (held h.0 q h.1) in none (rank u.0) (record { label = u.0; is = u.1; small = omega arith })

-- a set with the same states
pub same_states : (p : List Step) (area : List ℕ) (entry i : ℕ) (In On : ℕ → Type 0) → ((q : ℕ) → On q ↔ In q) → AreReached p area entry i In → AreReached p area entry i On
same_states p area entry i In On same now = record {
  sound = λ q h. now.sound q ((same q).0 h);
  whole = λ q h. (same q).1 (now.whole q h);
}

inside : (area : List ℕ) (i : ℕ) → i + 1 < length area → end_context area i ≡ 0
inside area i lt = let e : (i + 1 == length area) ≡ false = grind (arith, lt) in ap (λ b. one_if b) e

-- what one byte led to in one area it leads to in each
pub link_of : (p : List Step) (entry b : ℕ) (states : List ℕ) (s r : Span) (area : List ℕ) (i : ℕ) → slice_get area i ≡ Some b → i + 1 < length area →
    AreReached p area entry i (Has states s) → AreReached p area entry (i + 1) (Has states r) →
    (r.goes_on ≡ false → NoneGoesOn p area entry i (λ q. IsReachedFrom p area entry 0 q i)) → IsLink p entry b states s r
link_of p entry b states s r area i is lt was now none = λ other j there less before. (
  record {
    sound = λ q h. (
        let out = now.sound q h in
        step_same area other i j b 0 (is, inside area i lt) (there, inside other j less) p entry 0 0 (omega arith)
        (λ x o. before.sound x (was.whole x o)) out.count q out.reach);
    whole = λ q out. now.whole q
        (step_same other area j i b 0 (there, inside other j less) (is, inside area i lt) p entry 0 0 (omega arith)
        (λ x o. was.sound x (before.whole x o)) out.count q out.reach);
  },
  λ flag q x h low e. none flag q x (was.sound q h) low (cross_edge other area j i b there is p q x e),
)

get_front : {A : Type 0} (xs ys : List A) (k : ℕ) (x : A) → slice_get xs k ≡ Some x → slice_get (xs ++ ys) k ≡ Some x
get_front [] ys k x e = cc
get_front (a ∷ xs) ys zero x e = e
get_front (a ∷ xs) ys (suc k) x e = get_front xs ys k x e

get_back : {A : Type 0} (xs ys : List A) (k : ℕ) (x : A) → k < length xs → slice_get (xs ++ ys) k ≡ Some x → slice_get xs k ≡ Some x
get_back [] ys k x lt e = absurd (omega (arith, lt))
get_back (a ∷ xs) ys zero x lt e = e
get_back (a ∷ xs) ys (suc k) x lt e = get_back xs ys k x (omega (arith, lt)) e

get_after : {A : Type 0} (xs ys : List A) (k : ℕ) → slice_get (xs ++ ys) (length xs + k) ≡ slice_get ys k
get_after [] ys k = ap (λ n. slice_get ys n) (omega arith)
get_after (a ∷ xs) ys k =
    let n : length (a ∷ xs) + k ≡ suc (length xs + k) = omega arith in
    ap (λ m. slice_get (a ∷ (xs ++ ys)) m) n ∙ get_after xs ys k

pub get_last : {A : Type 0} (xs : List A) (y : A) → slice_get (xs ++ y ∷ []) (length xs) ≡ Some y
get_last [] y = refl
get_last (a ∷ xs) y = get_last xs y

get_one_more : {A : Type 0} (xs : List A) (y : A) (k : ℕ) (x : A) → slice_get (xs ++ y ∷ []) k ≡ Some x → (slice_get xs k ≡ Some x) ⊎ ((k ≡ length xs) × (y ≡ x))
get_one_more [] y zero x e = inr (refl, cc)
get_one_more [] y (suc k) x e = cc
get_one_more (a ∷ xs) y zero x e = inl e
get_one_more (a ∷ xs) y (suc k) x e = ⊎_elim (λ h. inl h) (λ h. inr (ap suc h.0, h.1)) (get_one_more xs y k x e)

-- where a span's states stay, so does what it has
pub has_more : (states more : List ℕ) (s : Span) → s.end ≤ length states → (q : ℕ) → Has (states ++ more) s q ↔ Has states s q
has_more states more s le q = (
  (λ h. let lt = h.2 in (h.0, h.1, h.2, get_back states more h.0 q (omega (arith, lt, le)) h.3)),
  (λ h. (h.0, h.1, h.2, get_front states more h.0 q h.3)),
)

-- a link stays where the states do
link_kept : (p : List Step) (entry b : ℕ) (old new : List ℕ) (s r : Span) → ((q : ℕ) → Has new s q ↔ Has old s q) → ((q : ℕ) → Has new r q ↔ Has old r q) →
    IsLink p entry b old s r → IsLink p entry b new s r
link_kept p entry b old new s r same_s same_r link = λ area i is lt now.
    let before = same_states p area entry i (Has new s) (Has old s) (λ q. ((same_s q).1, (same_s q).0)) now in
    let to = link area i is lt before in (
      same_states p area entry (i + 1) (Has old r) (Has new r) same_r to.0,
      λ flag q x h low e. to.1 flag q x ((same_s q).0 h) low e,
    )

-- one set more, after the others
module _ (spans : List Span) (states more : List ℕ) (bounded : AreBounded spans states) (s : Span) (start : s.start ≡ length states) (end : s.end ≡ length states + length more) where
  len : length (states ++ more) ≡ length states + length more
  len = length-append states more

  pub bounded_more : length spans < 512 → AreBounded (spans ++ s ∷ []) (states ++ more)
  bounded_more lt = record {
    few = omega (arith, lt, length-append spans (s ∷ []));
    ordered = λ v r is. ⊎_elim
        (λ old. let o = bounded.ordered v r old in (o.0, omega (arith, o.1, len)))
        (λ new. subst (λ x. (x.start ≤ x.end) × (x.end ≤ length (states ++ more))) new.1 (omega (arith, start, end), omega (arith, end, len)))
        (get_one_more spans s v r is);
  }

  pub kept_more : (v : ℕ) (r : Span) → slice_get spans v ≡ Some r → (slice_get (spans ++ s ∷ []) v ≡ Some r) × ((q : ℕ) → Has (states ++ more) r q ↔ Has states r q)
  kept_more v r is = (get_front spans (s ∷ []) v r is, λ q. has_more states more r (bounded.ordered v r is).1 q)

  new_has : (q : ℕ) → Has (states ++ more) s q ↔ IsIn more q
  new_has q = (
    (λ h.
        let low = h.1 in
        let k : length states + (h.0 - length states) ≡ h.0 = omega (arith, low, start) in
        (h.0 - length states, sym (get_after states more (h.0 - length states)) ∙ ap (λ n. slice_get (states ++ more) n) k ∙ h.3)),
    (λ h.
        let lt = slice_get_within more h.0 q h.1 in
        (length states + h.0, omega (arith, start), omega (arith, end, lt), get_after states more h.0 ∙ h.1)),
  )

  pub set_more : (flag : Bool) → s.goes_on ≡ flag → IsSetOf (spans ++ s ∷ []) (states ++ more) more flag (length spans)
  set_more flag is = record { span = s; is = get_last spans s; flag = is; same = new_has }

  pub met_more : (p : List Step) (entry exit : ℕ) (links : List ℕ) → AreMet p entry exit spans states links → (IsIn more exit → ⊥) → AreMet p entry exit (spans ++ s ∷ []) (states ++ more) links
  met_more p entry exit links met none = record {
    open_sets = λ v r is h. ⊎_elim
        (λ old. met.open_sets v r old ((has_more states more r (bounded.ordered v r old).1 exit).0 h))
        (λ new. none ((new_has exit).0 (subst (λ x. Has (states ++ more) x exit) (sym new.1) h)))
        (get_one_more spans s v r is);
    linked = λ at b t low is some.
        let old = met.linked at b t low is some in
        let is_at = old.0 in
        let is_to = old.1 in
        let x = got spans at is_at in
        let y = got spans t is_to in
        let one = length-append spans (s ∷ []) in (
          omega (arith, is_at, one),
          omega (arith, is_to, one),
          λ a r is_a is_r.
              let f : Some a ≡ Some x.0 = sym is_a ∙ get_front spans (s ∷ []) at x.0 x.1 in
              let g : Some r ≡ Some y.0 = sym is_r ∙ get_front spans (s ∷ []) t y.0 y.1 in
              let a_same : x.0 ≡ a = cc in
              let r_same : y.0 ≡ r = cc in
              subst (λ z. IsLink p entry b (states ++ more) z r) a_same
              (subst (λ z. IsLink p entry b (states ++ more) x.0 z) r_same
              (link_kept p entry b states (states ++ more) x.0 y.0
              (has_more states more x.0 (bounded.ordered at x.0 x.1).1)
              (has_more states more y.0 (bounded.ordered t y.0 y.1).1)
              (old.2 x.0 y.0 x.1 y.1))),
        );
  }

-- one link more
pub link_more : (p : List Step) (entry exit : ℕ) (spans : List Span) (states links : List ℕ) (at b to : ℕ) → at < length spans → to < length spans → b < 256 →
    AreMet p entry exit spans states links →
    ((s r : Span) → slice_get spans at ≡ Some s → slice_get spans to ≡ Some r → IsLink p entry b states s r) →
    AreMet p entry exit spans states (set links (at * 256 + b) to)
link_more p entry exit spans states links at b to is_at is_to low_b met new = record {
  open_sets = met.open_sets;
  linked = λ k d t low_d is lt. ⊎_elim
      (λ same.
      let i = same.0 in
      let at_same : k ≡ at = omega (arith, i, low_b, low_d) in
      let b_same : b ≡ d = omega (arith, i, low_b, low_d) in (
        omega (arith, at_same, is_at),
        subst (λ x. x < length spans) (sym same.1) is_to,
        λ s r is_s is_r. subst (λ x. IsLink p entry x states s r) b_same
            (new s r (subst (λ x. slice_get spans x ≡ Some s) at_same is_s) (subst (λ x. slice_get spans x ≡ Some r) same.1 is_r)),
      ))
      (λ old. met.linked k d t low_d old lt)
      (put_get links (at * 256 + b) (k * 256 + d) to t is);
}

-- a span that lists the states in their order
pub listed_set : (spans : List Span) (all states : List ℕ) (s : Span) (flag : Bool) (v : ℕ) → slice_get spans v ≡ Some s → s.goes_on ≡ flag → s.start ≤ s.end →
    s.end ≡ s.start + length states → ((k q : ℕ) → slice_get states k ≡ Some q → slice_get all (s.start + k) ≡ Some q) → IsSetOf spans all states flag v
listed_set spans all states s flag v is goes le size same = record {
  span = s;
  is = is;
  flag = goes;
  same = λ q. (
    (λ h.
        let low = h.1 in
        let high = h.2 in
        let x = got states (h.0 - s.start) (omega (arith, low, high, le, size)) in
        let k : s.start + (h.0 - s.start) ≡ h.0 = omega (arith, low) in
        let e : Some x.0 ≡ Some q = sym (same (h.0 - s.start) x.0 x.1) ∙ ap (λ n. slice_get all n) k ∙ h.3 in
        let q_same : x.0 ≡ q = cc in
        (h.0 - s.start, subst (λ y. slice_get states (h.0 - s.start) ≡ Some y) q_same x.1)),
    (λ h.
        let lt = slice_get_within states h.0 q h.1 in
        (s.start + h.0, omega arith, omega (arith, lt, size, le), same h.0 q h.1)),
  );
}

-- a set after the others, over what was put
module _ (spans : List Span) (states more : List ℕ) (bounded : AreBounded spans states) (s : Span) (start : s.start ≡ length states) (end : s.end ≡ length states + length more)
    (longer : List Span) (all : List ℕ) (e1 : longer ≡ spans ++ s ∷ []) (e2 : all ≡ states ++ more) where
  pub put_bounded : length spans < 512 → AreBounded longer all
  put_bounded lt = subst (λ x. AreBounded x all) (sym e1) (subst (λ y. AreBounded (spans ++ s ∷ []) y) (sym e2) (bounded_more spans states more bounded s start end lt))

  pub put_kept : (v : ℕ) (r : Span) → slice_get spans v ≡ Some r → (slice_get longer v ≡ Some r) × ((q : ℕ) → Has all r q ↔ Has states r q)
  put_kept v r is =
      let k = kept_more spans states more bounded s start end v r is in
      (subst (λ x. slice_get x v ≡ Some r) (sym e1) k.0, subst (λ y. (q : ℕ) → Has y r q ↔ Has states r q) (sym e2) k.1)

  pub put_set : (flag : Bool) (v : ℕ) → v ≡ length spans → s.goes_on ≡ flag → IsSetOf longer all more flag v
  put_set flag v at is = subst (λ k. IsSetOf longer all more flag k) (sym at)
      (subst (λ x. IsSetOf x all more flag (length spans)) (sym e1)
      (subst (λ y. IsSetOf (spans ++ s ∷ []) y more flag (length spans)) (sym e2) (set_more spans states more bounded s start end flag is)))

  pub put_met : (p : List Step) (entry exit : ℕ) (links : List ℕ) → AreMet p entry exit spans states links → (IsIn more exit → ⊥) → AreMet p entry exit longer all links
  put_met p entry exit links met none = subst (λ x. AreMet p entry exit x all links) (sym e1)
      (subst (λ y. AreMet p entry exit (spans ++ s ∷ []) y links) (sym e2) (met_more spans states more bounded s start end p entry exit links met none))

-- the set that is next to another
module _ (p : List Step) (area : List ℕ) (entry i : ℕ) (old : List ℕ) (s : Span) (was : AreReached p area entry i (Has old s)) (listed : List ℕ) (flag : Bool)
    (now : AreReached p area entry (i + 1) (IsIn listed)) (stays : flag ≡ false → NoneGoesOn p area entry i (Has old s))
    (spans : List Span) (states : List ℕ) (v : ℕ) (it : IsSetOf spans states listed flag v) where
  set_at : IsAt p area entry (i + 1) spans states v
  set_at = (it.span, it.is, same_states p area entry (i + 1) (IsIn listed) (Has states it.span) it.same now)

  same_span : (r : Span) → slice_get spans v ≡ Some r → it.span ≡ r
  same_span r is = let e : Some it.span ≡ Some r = sym it.is ∙ is in cc

  none_on : (r : Span) → slice_get spans v ≡ Some r → r.goes_on ≡ false → NoneGoesOn p area entry i (λ q. IsReachedFrom p area entry 0 q i)
  none_on r is off q x h low e = stays (sym it.flag ∙ (ap (λ y. y.goes_on) (same_span r is) ∙ off)) q x (was.whole q h) low e

  pub set_after : IsAfter p area entry i spans states v
  set_after = record { at = set_at; none = none_on }

  pub set_link : ((q : ℕ) → Has states s q ↔ Has old s q) → (b : ℕ) → slice_get area i ≡ Some b → i + 1 < length area → (r : Span) → slice_get spans v ≡ Some r → IsLink p entry b states s r
  set_link kept b is lt r is_r = link_of p entry b states s r area i is lt (same_states p area entry i (Has old s) (Has states s) kept was)
      (subst (λ y. AreReached p area entry (i + 1) (Has states y)) (same_span r is_r) (same_states p area entry (i + 1) (IsIn listed) (Has states it.span) it.same now)) (none_on r is_r)

-- the set that a link leads to
pub link_after : (p : List Step) (area : List ℕ) (entry exit i at b t : ℕ) (spans : List Span) (states links : List ℕ) → AreMet p entry exit spans states links →
    IsAt p area entry i spans states at → b < 256 → slice_get area i ≡ Some b → i + 1 < length area → slice_get links (at * 256 + b) ≡ Some t → t < 65535 →
    IsAfter p area entry i spans states t
link_after p area entry exit i at b t spans states links met now low is lt link some =
    let l = met.linked at b t low link some in
    let is_to = l.1 in
    let to = got spans t is_to in
    let on = l.2 now.0 to.0 now.1 to.1 area i is lt now.2 in
    record {
      at = (to.0, to.1, on.0);
      none = λ r is_r off q x h less e.
          let f : Some to.0 ≡ Some r = sym to.1 ∙ is_r in
          let same : to.0 ≡ r = cc in
          on.1 (ap (λ y. y.goes_on) same ∙ off) q x (now.2.whole q h) less e;
    }

pub some_map : {A : Type 0} (o : Option A) (P Q : A → Type 0) → ((x : A) → P x → Q x) → IfSome o P → IfSome o Q
some_map None P Q f h = h
some_map (Some x) P Q f h = f x h

-- the run's states in the span that is read
pub read_span : (p : List Step) (area : List ℕ) (entry i : ℕ) (spans : List Span) (states : List ℕ) (at : ℕ) (t : Span) → IsAt p area entry i spans states at →
    slice_get spans at ≡ Some t → AreReached p area entry i (Has states t)
read_span p area entry i spans states at t now is =
    let e : Some now.0 ≡ Some t = sym now.1 ∙ is in
    let same : now.0 ≡ t = cc in
    subst (λ y. AreReached p area entry i (Has states y)) same now.2

pub within_spans : (p : List Step) (area : List ℕ) (entry i : ℕ) (spans : List Span) (states : List ℕ) (at : ℕ) → IsAt p area entry i spans states at → at < length spans
within_spans p area entry i spans states at now = slice_get_within spans at now.0 now.1

pub states_below : (p : List Step) (area : List ℕ) (entry i : ℕ) (In : ℕ → Type 0) → InRange p → entry < length p → AreReached p area entry i In → (q : ℕ) → In q → q < length p
states_below p area entry i In range lt now q h =
    let r = now.sound q h in
    reach_below p (length p) (λ k x low is. range k x is) area entry 0 lt r.count q i r.reach

-- what a pass tells of the starts of matches
module _ (g a : Program) (area : List ℕ) (em : Embeds g a) where
  pub before_base : (base place : ℕ) → base ≤ place → place ≤ length area →
      ((j : ℕ) → j ≤ place → IsReachedFrom a.steps.items area a.entry 0 a.exit j → ⊥) →
      ((s n q j : ℕ) → s < base → base ≤ j → Reach a.steps.items area g.entry s n q j → ⊥) → NoneBefore g a area base
  before_base base place low high none on s j le to =
      let choice : (base ≤ s) ⊎ (s < base) = grind arith in
      ⊎_elim
      (λ h. h)
      (λ less.
      let side : (base ≤ j) ⊎ (j < base) = grind arith in
      ⊎_elim
      (λ after. absurd (on s to.count a.exit j less after to.reach))
      (λ before. absurd (none j (omega (arith, before, low)) (em.joins area s to.count a.exit j (omega (arith, less, low, high)) to.reach)))
      side)
      choice

  pub before_end : (base place : ℕ) → length area ≤ place → ((j : ℕ) → j ≤ place → IsReachedFrom a.steps.items area a.entry 0 a.exit j → ⊥) → NoneBefore g a area base
  before_end base place high none s j le to =
      let low = reach_after a.steps.items area g.entry s to.count a.exit j to.reach in
      absurd (none j (omega (arith, le, high)) (em.joins area s to.count a.exit j (omega (arith, low, le)) to.reach))

  -- where none of the set's states before the entry goes on, no run that began before does
  pub cut_at : (i s n q j : ℕ) → i ≤ length area → NoneGoesOn a.steps.items area a.entry i (λ x. IsReachedFrom a.steps.items area a.entry 0 x i) → s < i + 1 → i + 1 ≤ j →
      Reach a.steps.items area g.entry s n q j → ⊥
  cut_at i s n q j le none lt high r =
      let c = crosses_at a.steps.items area g.entry s i (omega (arith, lt)) n q j (omega (arith, high)) r in
      none c.0 c.2 (em.joins area s c.1 c.0 i (omega (arith, lt, le)) c.3) (em.inner area s c.1 c.0 i c.3) c.4
