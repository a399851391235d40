-- What the grammar spells is read.
use Rattle.std.proofs.Common.{◌≡◌, ℕ, ◌+◌, ◌<◌, Bool, true, false, List, [], ◌∷◌, ◌++◌, length, Option, Some, None, refl, sym, ◌∙◌, ap, arith}
use Rattle.pm_regex.specs.declared.op.Atom.TheVariants.{Byte}
use Rattle.pm_regex.specs.declared.op.Times.{Times}
use Rattle.pm_regex.specs.declared.sign.Sign.TheVariants.{Open, Close, Bar, Cut, Repeat}
use Rattle.pm_regex.specs.Tokens.{Token, sign}
use Rattle.pm_regex.specs.Re.{Re, nothing, one, seq, either, Whole}
use Rattle.pm_regex.specs.Grammar.{Stand, front, cut_front, behind, start_of, edge_atom, times_byte, IsPiece, atom, members, edge, front_times, cut_times, group, repeated, IsBranch, empty, first, more, IsExpr, branch, bar, IsWhole, plain, with_cut}
use Rattle.pm_regex.specs.Machine.{Frame, State, fresh, branch_cut, stand_of, next_stand, closed_branch, with_piece, expr_of, with_inner, run_next, run, finish, opening, reading, repeat_last}

pub run-append : (st : Option State) (u v : List Token) → run st (u ++ v) ≡ run (run st u) v
run-append st [] v = refl
run-append st (t ∷ u) v = run-append (run_next st t) u v

then : (st st' st'' : Option State) (u v : List Token) → run st u ≡ st' → run st' v ≡ st'' → run st (u ++ v) ≡ st''
then st st' st'' u v e f = run-append st u v ∙ ap (λ s. run s v) e ∙ f

abbrev pub before_of : Re → Re
before_of (seq b p) = b
before_of _ = nothing

abbrev pub last_of : Re → Option Re
last_of (seq b p) = Some p
last_of _ = None

-- the frame after a branch
abbrev pub after : Frame → Re → Frame
after f e = record f { before = before_of e; last = last_of e }

closed_after : (d : ℕ) (c : Bool) (u : List Token) (e : Re) (f : Frame) → IsBranch d c u e → closed_branch (after f e).before (after f e).last ≡ e
closed_after d c u e f (empty _ _) = refl
closed_after d c u e f (first _ _ _ x p) = refl
closed_after d c u e f (more _ _ _ _ b p x g h) = refl

-- where a piece stands at the front, none is there yet
front_none : (c : Bool) (s : Stand) (l : Option Re) → stand_of c l ≡ s → (s ≡ behind → ⊥) → l ≡ None
front_none c s None e h = refl
front_none c s (Some x) e h = absurd (h (sym e))

times_first : (st : State) (t : Times) → st.inner.last ≡ None → run_next (Some st) (sign (Repeat t)) ≡ Some (with_inner st (with_piece st.inner (one (Byte (times_byte t)))))
times_first st t e = ap (λ l. Some (repeat_last st t l)) e

opened : (st : State) → length st.outer < 200 → run_next (Some st) (sign Open) ≡ Some (record { left = st.left; inner = fresh false; outer = st.inner ∷ st.outer })
opened st h = grind (arith, h)

-- at the front of a branch
abbrev pub at : Option Re → Bool → Option Re → List Frame → State
at left cut bars outer = record { left = left; inner = record { cut = cut; bars = bars; before = nothing; last = None }; outer = outer }

mutual
  pub piece_runs : (d : ℕ) (s : Stand) (u : List Token) (e : Re) → IsPiece d s u e → (st : State) → length st.outer ≡ d → next_stand st.inner ≡ s →
      run (Some st) u ≡ Some (with_inner st (with_piece st.inner e))
  piece_runs d s u e (atom _ _ a) st deep stands = refl
  piece_runs d s u e (members _ _ n rs) st deep stands = refl
  piece_runs d s u e (edge _ _) st deep stands = ap (λ x. Some (with_inner st (with_piece st.inner (one (edge_atom x))))) stands
  piece_runs d s u e (front_times _ t) st deep stands = times_first st t (front_none (branch_cut st.inner.cut st.inner.bars) front st.inner.last stands (λ x. cc))
  piece_runs d s u e (cut_times _ t) st deep stands = times_first st t (front_none (branch_cut st.inner.cut st.inner.bars) cut_front st.inner.last stands (λ x. cc))
  piece_runs d s u e (group _ _ v x lt g) st deep stands =
      let o = opened st (omega (arith, deep, lt)) in
      let st2 : State = record { left = st.left; inner = fresh false; outer = st.inner ∷ st.outer } in
      let r = expr_runs (d + 1) false v x g st.left (st.inner ∷ st.outer) (omega (arith, deep)) in
      ap (λ z. run z (v ++ sign Close ∷ [])) o
      ∙ then (Some st2) (Some (with_inner st2 r.0)) (Some (with_inner st (with_piece st.inner e))) v (sign Close ∷ []) r.1
      (ap (λ z. Some (with_inner st (with_piece st.inner z))) r.2)
  piece_runs d s u e (repeated _ _ t v x p) st deep stands =
      then (Some st) (Some (with_inner st (with_piece st.inner x))) (Some (with_inner st (with_piece st.inner e))) v (sign (Repeat t) ∷ []) (piece_runs d s v x p st deep stands) refl

  pub branch_runs : (d : ℕ) (c : Bool) (u : List Token) (e : Re) → IsBranch d c u e → (left : Option Re) (cut : Bool) (bars : Option Re) (outer : List Frame) →
      length outer ≡ d → branch_cut cut bars ≡ c →
      run (Some (at left cut bars outer)) u ≡ Some (with_inner (at left cut bars outer) (after (at left cut bars outer).inner e))
  branch_runs d c u e (empty _ _) left cut bars outer deep cuts = refl
  branch_runs d c u e (first _ _ _ x p) left cut bars outer deep cuts =
      piece_runs d (start_of c) u x p (at left cut bars outer) deep (ap start_of cuts)
  branch_runs d c u e (more _ _ v w b p x g h) left cut bars outer deep cuts =
      let st = at left cut bars outer in
      then (Some st) (Some (with_inner st (after st.inner (seq b p)))) _ v w (branch_runs d c v (seq b p) g left cut bars outer deep cuts)
      (piece_runs d behind w x h (with_inner st (after st.inner (seq b p))) deep refl)

  pub expr_runs : (d : ℕ) (c : Bool) (u : List Token) (e : Re) → IsExpr d c u e → (left : Option Re) (outer : List Frame) → length outer ≡ d →
      (f : Frame) × (run (Some (at left c None outer)) u ≡ Some (record { left = left; inner = f; outer = outer })) × (expr_of f ≡ e)
  expr_runs d c u e (branch _ _ _ _ b) left outer deep =
      (after (fresh c) e, branch_runs d c u e b left c None outer deep refl, closed_after d c u e (fresh c) b)
  expr_runs d c u e (bar _ _ v w x y g b) left outer deep =
      let r = expr_runs d c v x g left outer deep in
      let f = r.0 in
      let st = at left f.cut (Some (expr_of f)) outer in (
        after st.inner y,
        then (Some (at left c None outer)) (Some (record { left = left; inner = f; outer = outer })) _ v (sign Bar ∷ w) r.1 (branch_runs d false w y b left f.cut (Some (expr_of f)) outer deep refl),
        ap (λ z. either z (closed_branch (after st.inner y).before (after st.inner y).last)) r.2 ∙ ap (λ z. either x z) (closed_after d false w y st.inner b),
      )

-- what the grammar spells is read
pub whole_reads : (ts : List Token) (w : Whole) → IsWhole ts w → reading ts ≡ Some w
whole_reads ts w (plain u e g) =
    let r = expr_runs 0 false u e g None [] refl in
    ap finish r.1 ∙ ap (λ z. Some (record { left = None; right = z })) r.2
whole_reads ts w (with_cut u v l e g h) =
    let r = expr_runs 0 false u l g None [] refl in
    let q = expr_runs 0 true v e h (Some l) [] refl in
    let mid : run_next (Some (record { left = None; inner = r.0; outer = [] })) (sign Cut) ≡ Some (at (Some l) true None []) = ap (λ z. Some (at (Some z) true None [])) r.2 in
    ap finish (then (Some opening) _ _ u (sign Cut ∷ v) r.1 (ap (λ z. run z v) mid ∙ q.1)) ∙ ap (λ z. Some (record { left = Some l; right = z })) q.2

-- tokens have at most one expression
pub one_reading : (ts : List Token) (w x : Whole) → IsWhole ts w → IsWhole ts x → w ≡ x
one_reading ts w x g h = let e : Some w ≡ Some x = sym (whole_reads ts w g) ∙ whole_reads ts x h in cc
