-- An automaton with four steps more, which read any bytes before a match.
use Rattle.std.proofs.Common.{◌≡◌, ℕ, Bool, false, zero, suc, ◌+◌, ◌<◌, ◌≤◌, ◌==◌, not, List, [], ◌∷◌, ◌++◌, Some, length, refl, sym, ◌∙◌, subst, ap, ⊎_elim, arith, length-append}
use Rattle.std.specs.Prelude.{slice_get}
use Rattle.pm_regex.specs.declared.op.Atom.TheVariants.{Any, LineStart}
use Rattle.pm_regex.specs.Re.{Re}
use Rattle.pm_match.specs.declared.step.Step.{Step}
use Rattle.pm_match.specs.declared.step.Step.TheVariants.{Fork, Take}
use Rattle.pm_match.specs.declared.step.Test.TheVariants.{One}
use Rattle.pm_match.specs.declared.build.Program.{Program}
use Rattle.pm_match.specs.Automaton.{Built, Edge}
use Rattle.pm_match.specs.Labels.{TargetsBelow, InRange}
use Rattle.pm_match.specs.Finding.{Reach}
use Rattle.pm_match.specs.Forward.{IsReachedFrom}
use Rattle.pm_match.specs.Anywhere.{Embeds, IsSound}
use Rattle.pm_match.proofs.Kept.{get_left, get_seam, kept_append, built_kept}
use Rattle.pm_match.proofs.RangeLemmas.{targets_more, get_push}
use Rattle.pm_match.proofs.CacheLemmas.{got}
use Rattle.pm_match.proofs.ListLemmas.{reach_below}
use Rattle.pm_match.proofs.EdgeLemmas.{fork_first, fork_second, take_on}
use Rattle.pm_match.proofs.ForwardLemmas.{leads_more}
use Rattle.pm_match.proofs.BackwardLemmas.{true_or_false}
use Rattle.pm_match.proofs.BestLemmas.{reach_of}

-- the program after one step more, two, three and four
abbrev more1 : List Step → ℕ → List Step
more1 p entry = p ++ Fork (length p + 1) entry ∷ []

abbrev more2 : List Step → ℕ → List Step
more2 p entry = more1 p entry ++ Fork (length p + 2) (length p + 3) ∷ []

abbrev more3 : List Step → ℕ → List Step
more3 p entry = more2 p entry ++ Take (One Any false) (length p) ∷ []

abbrev pub more4 : List Step → ℕ → List Step
more4 p entry = more3 p entry ++ Take (One LineStart false) (length p) ∷ []

get_at : (p : List Step) (n : ℕ) (x : Step) (ys : List Step) → n ≡ length p → slice_get (p ++ x ∷ ys) n ≡ Some x
get_at p n x ys e = subst (λ k. slice_get (p ++ x ∷ ys) k ≡ Some x) (sym e) (get_seam p x ys)

len1 : (p : List Step) (entry : ℕ) → length (more1 p entry) ≡ length p + 1
len1 p entry = omega (arith, length-append p (Fork (length p + 1) entry ∷ []))

len2 : (p : List Step) (entry : ℕ) → length (more2 p entry) ≡ length p + 2
len2 p entry = omega (arith, len1 p entry, length-append (more1 p entry) (Fork (length p + 2) (length p + 3) ∷ []))

len3 : (p : List Step) (entry : ℕ) → length (more3 p entry) ≡ length p + 3
len3 p entry = omega (arith, len2 p entry, length-append (more2 p entry) (Take (One Any false) (length p) ∷ []))

pub len4 : (p : List Step) (entry : ℕ) → length (more4 p entry) ≡ length p + 4
len4 p entry = omega (arith, len3 p entry, length-append (more3 p entry) (Take (One LineStart false) (length p) ∷ []))

-- the same, step by step
pub four : (p x0 x1 x2 x3 x4 : List Step) (entry n : ℕ) → x0 ≡ p → n ≡ length p → x1 ≡ x0 ++ Fork (n + 1) entry ∷ [] →
    x2 ≡ x1 ++ Fork (n + 2) (n + 3) ∷ [] → x3 ≡ x2 ++ Take (One Any false) n ∷ [] → x4 ≡ x3 ++ Take (One LineStart false) n ∷ [] →
    x4 ≡ more4 p entry
four p x0 x1 x2 x3 x4 entry n e0 len e1 e2 e3 e4 =
    let f1 : x1 ≡ more1 p entry = e1 ∙ ap (λ x. x ++ Fork (n + 1) entry ∷ []) e0 ∙ ap (λ k. p ++ Fork (k + 1) entry ∷ []) len in
    let f2 : x2 ≡ more2 p entry = e2 ∙ ap (λ x. x ++ Fork (n + 2) (n + 3) ∷ []) f1 ∙ ap (λ k. more1 p entry ++ Fork (k + 2) (k + 3) ∷ []) len in
    let f3 : x3 ≡ more3 p entry = e3 ∙ ap (λ x. x ++ Take (One Any false) n ∷ []) f2 ∙ ap (λ k. more2 p entry ++ Take (One Any false) k ∷ []) len in
    e4 ∙ ap (λ x. x ++ Take (One LineStart false) n ∷ []) f3 ∙ ap (λ k. more3 p entry ++ Take (One LineStart false) k ∷ []) len

-- whatever a step of the program names is among the first m steps
abbrev AllBelow : List Step → ℕ → Type 0
AllBelow p m = (q : ℕ) (s : Step) → slice_get p q ≡ Some s → TargetsBelow s m

below_push : (p : List Step) (x : Step) (m : ℕ) → AllBelow p m → TargetsBelow x m → AllBelow (p ++ x ∷ []) m
below_push p x m all t q s e = ⊎_elim (λ old. all q s old) (λ new. subst (λ y. TargetsBelow y m) new t) (get_push p x q s e)

module _ (p : List Step) (entry : ℕ) where
  keeps : (q : ℕ) (x : Step) → slice_get (more1 p entry) q ≡ Some x → slice_get (more4 p entry) q ≡ Some x
  keeps q x h = get_left (more3 p entry) _ q x (get_left (more2 p entry) _ q x (get_left (more1 p entry) _ q x h))

  step0 : slice_get (more4 p entry) (length p) ≡ Some (Fork (length p + 1) entry)
  step0 = keeps (length p) _ (get_seam p _ [])

  step1 : slice_get (more4 p entry) (length p + 1) ≡ Some (Fork (length p + 2) (length p + 3))
  step1 = get_left (more3 p entry) _ _ _ (get_left (more2 p entry) _ _ _ (get_at (more1 p entry) (length p + 1) _ [] (sym (len1 p entry))))

  step2 : slice_get (more4 p entry) (length p + 2) ≡ Some (Take (One Any false) (length p))
  step2 = get_left (more3 p entry) _ _ _ (get_at (more2 p entry) (length p + 2) _ [] (sym (len2 p entry)))

  step3 : slice_get (more4 p entry) (length p + 3) ≡ Some (Take (One LineStart false) (length p))
  step3 = get_at (more3 p entry) (length p + 3) _ [] (sym (len3 p entry))

  range4 : InRange p → entry < length p → InRange (more4 p entry)
  range4 range lt =
      let m = length p + 4 in
      let a = below_push p (Fork (length p + 1) entry) m (λ q s e. targets_more s (length p) m (omega arith) (range q s e)) (omega arith, omega (arith, lt)) in
      let b = below_push (more1 p entry) (Fork (length p + 2) (length p + 3)) m a (omega arith, omega arith) in
      let c = below_push (more2 p entry) (Take (One Any false) (length p)) m b (omega arith, tt) in
      let d = below_push (more3 p entry) (Take (One LineStart false) (length p)) m c (omega arith, tt) in
      λ q s e. subst (λ k. TargetsBelow s k) (sym (len4 p entry)) (d q s e)

  built4 : (fold : Bool) (e : Re) (s t : ℕ) → Built fold p e s t → Built fold (more4 p entry) e s t
  built4 fold e s t b =
      built_kept fold (more3 p entry) (more4 p entry) 0 (kept_append (more3 p entry) _ 0) e s t
      (built_kept fold (more2 p entry) (more3 p entry) 0 (kept_append (more2 p entry) _ 0) e s t
      (built_kept fold (more1 p entry) (more2 p entry) 0 (kept_append (more1 p entry) _ 0) e s t
      (built_kept fold p (more1 p entry) 0 (kept_append p _ 0) e s t b)))

  module _ (area : List ℕ) where
    abbrev Front : ℕ → ℕ → Type 0
    Front q i = IsReachedFrom (more4 p entry) area (length p) 0 q i

    on : (q i r k : ℕ) → Front q i → Edge (more4 p entry) area q i r k → Front r k
    on q i r k h e = leads_more (more4 p entry) area (length p) 0 q i r k h e

    -- the loop reads one byte more
    one_more : (i b : ℕ) → slice_get area i ≡ Some b → Front (length p) i → Front (length p) (i + 1)
    one_more i b is h =
        let body = on (length p) i (length p + 1) i h (fork_first (more4 p entry) area (length p) i (length p + 1) entry step0) in
        let any = on (length p + 1) i (length p + 2) i body (fork_first (more4 p entry) area (length p + 1) i (length p + 2) (length p + 3) step1) in
        let line = on (length p + 1) i (length p + 3) i body (fork_second (more4 p entry) area (length p + 1) i (length p + 2) (length p + 3) step1) in
        ⊎_elim
        (λ same. on (length p + 3) i (length p) (i + 1) line (take_on (more4 p entry) area (length p + 3) i (One LineStart false) (length p) b step3 is same))
        (λ other. on (length p + 2) i (length p) (i + 1) any (take_on (more4 p entry) area (length p + 2) i (One Any false) (length p) b step2 is (ap not other)))
        (true_or_false (b == 10))

    reads : (i : ℕ) → i ≤ length area → Front (length p) i
    reads zero h = record { count = 0; reach = (refl, refl) }
    reads (suc i) h =
        let at = got area i (omega (arith, h)) in
        let next : i + 1 ≡ suc i = omega arith in
        subst (λ k. Front (length p) k) next (one_more i at.0 at.1 (reads i (omega (arith, h))))

    joins : (s n q i : ℕ) → s ≤ length area → Reach (more4 p entry) area entry s n q i → Front q i
    joins s zero q i h r =
        subst (λ x. Front x i) (sym r.0) (subst (λ k. Front entry k) (sym r.1)
        (on (length p) s entry s (reads s h) (fork_second (more4 p entry) area (length p) s (length p + 1) entry step0)))
    joins s (suc n) q i h r = on r.0 r.1 q i (joins s n r.0 r.1 h r.2) r.3

  -- whatever one of its first steps names is one of these
  named : InRange p → (q : ℕ) (x : Step) → q < length p → slice_get (more4 p entry) q ≡ Some x → TargetsBelow x (length p)
  named range q x lt is =
      let old = got p q lt in
      let e : Some old.0 ≡ Some x = sym (keeps q old.0 (get_left p _ q old.0 old.1)) ∙ is in
      let same : old.0 ≡ x = cc in
      subst (λ y. TargetsBelow y (length p)) same (range q old.0 old.1)

-- the automaton with these steps reads any bytes before a match
module _ (g a : Program) (steps : a.steps.items ≡ more4 g.steps.items g.entry) (entry : a.entry ≡ length g.steps.items) (exit : a.exit ≡ g.exit) where
  pub embeds4 : IsSound g → Embeds g a
  embeds4 is = record {
    joins = λ area s n q i h r.
        subst (λ p. IsReachedFrom p area a.entry 0 q i) (sym steps)
        (subst (λ k. IsReachedFrom (more4 g.steps.items g.entry) area k 0 q i) (sym entry)
        (joins g.steps.items g.entry area s n q i h (subst (λ p. Reach p area g.entry s n q i) steps r)));
    inner = λ area s n q i r.
        subst (λ k. q < k) (sym entry)
        (reach_below (more4 g.steps.items g.entry) (length g.steps.items) (named g.steps.items g.entry is.range) area g.entry s is.entry n q i
        (subst (λ p. Reach p area g.entry s n q i) steps r));
    ends = λ e fold area s j built at.
        let to = reach_of fold (more4 g.steps.items g.entry) area e g.entry g.exit (built4 g.steps.items g.entry fold e g.entry g.exit built) s j at in
        subst (λ p. IsReachedFrom p area g.entry s a.exit j) (sym steps)
        (subst (λ k. IsReachedFrom (more4 g.steps.items g.entry) area g.entry s k j) (sym exit) (record { count = to.0; reach = to.1 }));
  }

  pub sound4 : IsSound g → IsSound a
  sound4 is =
      let len = ap length steps ∙ len4 g.steps.items g.entry in
      let out = is.exit in record {
        range = subst (λ p. InRange p) (sym steps) (range4 g.steps.items g.entry is.range is.entry);
        entry = omega (arith, len, entry);
        exit = omega (arith, len, exit, out);
      }
