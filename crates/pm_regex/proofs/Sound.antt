-- What is read is spelled by the grammar.
use Rattle.std.proofs.Common.{◌≡◌, ℕ, ◌+◌, ◌<◌, Bool, true, false, List, [], ◌∷◌, ◌++◌, length, Option, Some, None, refl, sym, ◌∙◌, subst, ap, arith, append_assoc, append-nil, add-one}
use Rattle.std.specs.Prelude.{nat_lt}
use Rattle.pm_regex.specs.declared.op.Atom.TheVariants.{Byte}
use Rattle.pm_regex.specs.declared.op.Times.{Times}
use Rattle.pm_regex.specs.declared.sign.Sign.TheVariants.{Open, Close, Bar, Cut, Edge, Repeat, One}
use Rattle.pm_regex.specs.Tokens.{Token, sign, bracket}
use Rattle.pm_regex.specs.Re.{Re, nothing, one, set, seq, either, times, Whole}
use Rattle.pm_regex.specs.Grammar.{behind, start_of, edge_atom, times_byte, IsPiece, atom, members, edge, front_times, cut_times, group, repeated, IsBranch, empty, first, more, IsExpr, branch, bar, IsWhole, plain, with_cut}
use Rattle.pm_regex.specs.Machine.{Frame, State, fresh, branch_cut, stand_of, next_stand, closed_branch, with_piece, joined, expr_of, step, run, finish, finished, opening, reading, repeat_last, close_group, cut_here}

-- the text of the finished branches, each with its bar
abbrev pub BarsAre : ℕ → Bool → Option Re → List Token → Type 0
BarsAre d c None u = u ≡ []
BarsAre d c (Some e) u = (w : List Token) × (u ≡ w ++ sign Bar ∷ []) × IsExpr d c w e

abbrev pub BranchIs : ℕ → Bool → Re → Option Re → List Token → Type 0
BranchIs d c b None u = (b ≡ nothing) × (u ≡ [])
BranchIs d c b (Some p) u = IsBranch d c u (seq b p)

-- the group so far
pub record FrameIs (d : ℕ) (f : Frame) (u : List Token) : Type 0 where
  pub bars : List Token
  pub rest : List Token
  pub text : u ≡ bars ++ rest
  pub bars_are : BarsAre d f.cut f.bars bars
  pub branch_is : BranchIs d (branch_cut f.cut f.bars) f.before f.last rest

branch_done : (d : ℕ) (c : Bool) (b : Re) (last : Option Re) (u : List Token) → BranchIs d c b last u → IsBranch d c u (closed_branch b last)
branch_done d c b None u h = subst (λ x. IsBranch d c u x) (sym h.0) (subst (λ x. IsBranch d c x nothing) (sym h.1) (empty d c))
branch_done d c b (Some p) u h = h

branch_piece : (d : ℕ) (c : Bool) (b : Re) (last : Option Re) (u v : List Token) (e : Re) → BranchIs d c b last u → IsPiece d (stand_of c last) v e →
    IsBranch d c (u ++ v) (seq (closed_branch b last) e)
branch_piece d c b None u v e h p =
    subst (λ x. IsBranch d c (x ++ v) (seq b e)) (sym h.1) (subst (λ x. IsBranch d c v (seq x e)) (sym h.0) (first d c v e p))
branch_piece d c b (Some q) u v e h p = more d c u v b q e h p

-- a repeat after the last piece
branch_repeat : (d : ℕ) (c : Bool) (b p : Re) (u : List Token) (t : Times) → IsBranch d c u (seq b p) → IsBranch d c (u ++ sign (Repeat t) ∷ []) (seq b (times t p))
branch_repeat d c b p u t (first _ _ _ _ g) = first d c (u ++ sign (Repeat t) ∷ []) (times t p) (repeated d (start_of c) t u p g)
branch_repeat d c b p u t (more _ _ v w x y _ g h) =
    subst (λ z. IsBranch d c z (seq (seq x y) (times t p))) (sym (append_assoc v w (sign (Repeat t) ∷ [])))
    (more d c v (w ++ sign (Repeat t) ∷ []) x y (times t p) g (repeated d behind t w p h))

expr_bars : (d : ℕ) (c : Bool) (bars : Option Re) (u v : List Token) (b : Re) → BarsAre d c bars u → IsBranch d (branch_cut c bars) v b → IsExpr d c (u ++ v) (joined bars b)
expr_bars d c None u v b h g = subst (λ x. IsExpr d c (x ++ v) b) (sym h) (branch d c v b g)
expr_bars d c (Some e) u v b h g =
    subst (λ x. IsExpr d c x (either e b)) (sym (ap (λ x. x ++ v) h.1 ∙ append_assoc h.0 (sign Bar ∷ []) v)) (bar d c h.0 v e b h.2 g)

pub frame_expr : (d : ℕ) (f : Frame) (u : List Token) → FrameIs d f u → IsExpr d f.cut u (expr_of f)
frame_expr d f u h =
    subst (λ x. IsExpr d f.cut x (expr_of f)) (sym h.text)
    (expr_bars d f.cut f.bars h.bars h.rest (closed_branch f.before f.last) h.bars_are (branch_done d (branch_cut f.cut f.bars) f.before f.last h.rest h.branch_is))

regroup : (u a b v : List Token) → u ≡ a ++ b → u ++ v ≡ a ++ (b ++ v)
regroup u a b v e = ap (λ x. x ++ v) e ∙ append_assoc a b v

pub frame_piece : (d : ℕ) (f : Frame) (u v : List Token) (e : Re) → FrameIs d f u → IsPiece d (next_stand f) v e → FrameIs d (with_piece f e) (u ++ v)
frame_piece d f u v e h p = record {
  bars = h.bars;
  rest = h.rest ++ v;
  text = regroup u h.bars h.rest v h.text;
  bars_are = h.bars_are;
  branch_is = branch_piece d (branch_cut f.cut f.bars) f.before f.last h.rest v e h.branch_is p;
}

pub frame_repeat : (d : ℕ) (f : Frame) (u : List Token) (t : Times) (p : Re) → f.last ≡ Some p → FrameIs d f u →
    FrameIs d (record f { last = Some (times t p) }) (u ++ sign (Repeat t) ∷ [])
frame_repeat d f u t p e h = record {
  bars = h.bars;
  rest = h.rest ++ sign (Repeat t) ∷ [];
  text = regroup u h.bars h.rest (sign (Repeat t) ∷ []) h.text;
  bars_are = h.bars_are;
  branch_is = branch_repeat d (branch_cut f.cut f.bars) f.before p h.rest t (subst (λ l. BranchIs d (branch_cut f.cut f.bars) f.before l h.rest) e h.branch_is);
}

pub frame_bar : (d : ℕ) (f : Frame) (u : List Token) → FrameIs d f u → FrameIs d (record { cut = f.cut; bars = Some (expr_of f); before = nothing; last = None }) (u ++ sign Bar ∷ [])
frame_bar d f u h = record {
  bars = u ++ sign Bar ∷ [];
  rest = [];
  text = sym (append-nil (u ++ sign Bar ∷ []));
  bars_are = (u, refl, frame_expr d f u h);
  branch_is = (refl, refl);
}

pub frame_fresh : (d : ℕ) (c : Bool) → FrameIs d (fresh c) []
frame_fresh d c = record { bars = []; rest = []; text = refl; bars_are = refl; branch_is = (refl, refl) }

-- the open groups, the innermost first
abbrev pub Held : Frame → List Frame → Bool → List Token → Type 0
Held f [] c t = FrameIs 0 f t × (f.cut ≡ c)
Held f (g ∷ gs) c t = (a : List Token) × (b : List Token) × (t ≡ a ++ sign Open ∷ b) × FrameIs (length (g ∷ gs)) f b × (f.cut ≡ false) × (length gs < 200) × Held g gs c a

abbrev pub StateIs : Option Re → Frame → List Frame → List Token → Type 0
StateIs None f fs t = Held f fs false t
StateIs (Some l) f fs t = (a : List Token) × (b : List Token) × (t ≡ a ++ sign Cut ∷ b) × IsExpr 0 false a l × Held f fs true b

-- a change of the innermost group by more text
held_more : (f f' : Frame) (fs : List Frame) (c : Bool) (t v : List Token) → ((d : ℕ) (u : List Token) → FrameIs d f u → FrameIs d f' (u ++ v)) → f'.cut ≡ f.cut →
    Held f fs c t → Held f' fs c (t ++ v)
held_more f f' [] c t v h cut x = (h 0 t x.0, cut ∙ x.1)
held_more f f' (g ∷ gs) c t v h cut x =
    (x.0, x.1 ++ v, regroup t x.0 (sign Open ∷ x.1) v x.2, h (length (g ∷ gs)) x.1 x.3, cut ∙ x.4, x.5, x.6)

-- and of any state that keeps its left side
state_more : (left : Option Re) (f f' : Frame) (fs fs' : List Frame) (t v : List Token) → ((c : Bool) (u : List Token) → Held f fs c u → Held f' fs' c (u ++ v)) →
    StateIs left f fs t → StateIs left f' fs' (t ++ v)
state_more None f f' fs fs' t v h x = h false t x
state_more (Some l) f f' fs fs' t v h x = (x.0, x.1 ++ v, regroup t x.0 (sign Cut ∷ x.1) v x.2, x.3, h true x.1 x.4)

held_open : (f : Frame) (fs : List Frame) → length fs < 200 → (c : Bool) (t : List Token) → Held f fs c t → Held (fresh false) (f ∷ fs) c (t ++ sign Open ∷ [])
held_open f fs lt c t h = (t, [], refl, frame_fresh (length (f ∷ fs)) false, refl, lt, h)

held_close : (f g : Frame) (gs : List Frame) (c : Bool) (t : List Token) → Held f (g ∷ gs) c t → Held (with_piece g (expr_of f)) gs c (t ++ sign Close ∷ [])
held_close f g gs c t h =
    let e : IsExpr (length gs + 1) false h.1 (expr_of f) = subst (λ d. IsExpr d false h.1 (expr_of f)) (sym (add-one (length gs)))
    (subst (λ x. IsExpr (length (g ∷ gs)) x h.1 (expr_of f)) h.4 (frame_expr (length (g ∷ gs)) f h.1 h.3)) in
    let v = sign Open ∷ h.1 ++ sign Close ∷ [] in
    subst (λ x. Held (with_piece g (expr_of f)) gs c x) (sym (regroup t h.0 (sign Open ∷ h.1) (sign Close ∷ []) h.2))
    (held_piece g (expr_of f) gs c h.0 v (λ d is. subst (λ n. IsPiece n (next_stand g) v (expr_of f)) (sym is) (group (length gs) (next_stand g) h.1 (expr_of f) h.5 e)) h.6)
  where
    held_piece : (g : Frame) (e : Re) (gs : List Frame) (c : Bool) (a v : List Token) → ((d : ℕ) → d ≡ length gs → IsPiece d (next_stand g) v e) → Held g gs c a → Held (with_piece g e) gs c (a ++ v)
    held_piece g e [] c a v p h = (frame_piece 0 g a v e h.0 (p 0 refl), h.1)
    held_piece g e (k ∷ ks) c a v p h =
        (h.0, h.1 ++ v, regroup a h.0 (sign Open ∷ h.1) v h.2, frame_piece (length (k ∷ ks)) g h.1 v e h.3 (p (length (k ∷ ks)) refl), h.4, h.5, h.6)

-- `*` at the front of a branch
front_byte : (d : ℕ) (c : Bool) (t : Times) → IsPiece d (start_of c) (sign (Repeat t) ∷ []) (one (Byte (times_byte t)))
front_byte d true t = cut_times d t
front_byte d false t = front_times d t

times_more : (left : Option Re) (f : Frame) (fs : List Frame) (u : List Token) (t : Times) (l : Option Re) → f.last ≡ l → StateIs left f fs u →
    (st' : State) → repeat_last (record { left = left; inner = f; outer = fs }) t l ≡ st' → StateIs st'.left st'.inner st'.outer (u ++ sign (Repeat t) ∷ [])
times_more left f fs u t None e h st' is =
    subst (λ s. StateIs s.left s.inner s.outer (u ++ sign (Repeat t) ∷ [])) is
    (state_more left f (with_piece f (one (Byte (times_byte t)))) fs fs u (sign (Repeat t) ∷ [])
    (λ c w. held_more f (with_piece f (one (Byte (times_byte t)))) fs c w (sign (Repeat t) ∷ [])
    (λ d x g. frame_piece d f x (sign (Repeat t) ∷ []) (one (Byte (times_byte t))) g
    (subst (λ z. IsPiece d (stand_of (branch_cut f.cut f.bars) z) (sign (Repeat t) ∷ []) (one (Byte (times_byte t)))) (sym e) (front_byte d (branch_cut f.cut f.bars) t))) refl) h)
times_more left f fs u t (Some p) e h st' is =
    subst (λ s. StateIs s.left s.inner s.outer (u ++ sign (Repeat t) ∷ [])) is
    (state_more left f (record f { last = Some (times t p) }) fs fs u (sign (Repeat t) ∷ [])
    (λ c w. held_more f (record f { last = Some (times t p) }) fs c w (sign (Repeat t) ∷ []) (λ d x g. frame_repeat d f x t p e g) refl) h)

some_state : {a b : State} → Some a ≡ Some b → a ≡ b
some_state e = cc

close_more : (left : Option Re) (f : Frame) (fs : List Frame) (u : List Token) → StateIs left f fs u → (st' : State) →
    close_group (record { left = left; inner = f; outer = fs }) fs ≡ Some st' → StateIs st'.left st'.inner st'.outer (u ++ sign Close ∷ [])
close_more left f [] u h st' is = cc
close_more left f (g ∷ gs) u h st' is =
    subst (λ s. StateIs s.left s.inner s.outer (u ++ sign Close ∷ [])) (some_state is)
    (state_more left f (with_piece g (expr_of f)) (g ∷ gs) gs u (sign Close ∷ []) (λ c w. held_close f g gs c w) h)

cut_more : (left : Option Re) (f : Frame) (fs : List Frame) (u : List Token) → StateIs left f fs u → (st' : State) →
    cut_here (record { left = left; inner = f; outer = fs }) left fs ≡ Some st' → StateIs st'.left st'.inner st'.outer (u ++ sign Cut ∷ [])
cut_more None f [] u h st' is =
    subst (λ s. StateIs s.left s.inner s.outer (u ++ sign Cut ∷ [])) (some_state is)
    (u, [], refl, subst (λ c. IsExpr 0 c u (expr_of f)) h.1 (frame_expr 0 f u h.0), (frame_fresh 0 true, refl))
cut_more None f (g ∷ gs) u h st' is = cc
cut_more (Some l) f [] u h st' is = cc
cut_more (Some l) f (g ∷ gs) u h st' is = cc

open_more : (left : Option Re) (f : Frame) (fs : List Frame) (u : List Token) → StateIs left f fs u → (st' : State) → (b : Bool) → nat_lt (length fs) 200 ≡ b →
    step (record { left = left; inner = f; outer = fs }) (sign Open) ≡ Some st' → StateIs st'.left st'.inner st'.outer (u ++ sign Open ∷ [])
open_more left f fs u h st' true e is =
    let lt : length fs < 200 = grind (arith, e) in
    let there : Some (record { left = left; inner = fresh false; outer = f ∷ fs }) ≡ Some st' = grind (arith, is, e) in
    subst (λ s. StateIs s.left s.inner s.outer (u ++ sign Open ∷ [])) (some_state there)
    (state_more left f (fresh false) fs (f ∷ fs) u (sign Open ∷ []) (λ c w. held_open f fs lt c w) h)
open_more left f fs u h st' false e is = grind (arith, is, e)

piece_more : (left : Option Re) (f : Frame) (fs : List Frame) (u v : List Token) (e : Re) → ((d : ℕ) → IsPiece d (next_stand f) v e) → StateIs left f fs u →
    StateIs left (with_piece f e) fs (u ++ v)
piece_more left f fs u v e p h =
    state_more left f (with_piece f e) fs fs u v (λ c w. held_more f (with_piece f e) fs c w v (λ d x g. frame_piece d f x v e g (p d)) refl) h

pub step_more : (left : Option Re) (f : Frame) (fs : List Frame) (u : List Token) (t : Token) → StateIs left f fs u → (st' : State) →
    step (record { left = left; inner = f; outer = fs }) t ≡ Some st' → StateIs st'.left st'.inner st'.outer (u ++ t ∷ [])
step_more left f fs u (sign (One a)) h st' is =
    subst (λ s. StateIs s.left s.inner s.outer (u ++ sign (One a) ∷ [])) (some_state is) (piece_more left f fs u (sign (One a) ∷ []) (one a) (λ d. atom d (next_stand f) a) h)
step_more left f fs u (bracket n rs) h st' is =
    subst (λ s. StateIs s.left s.inner s.outer (u ++ bracket n rs ∷ [])) (some_state is) (piece_more left f fs u (bracket n rs ∷ []) (set n rs) (λ d. members d (next_stand f) n rs) h)
step_more left f fs u (sign Edge) h st' is =
    subst (λ s. StateIs s.left s.inner s.outer (u ++ sign Edge ∷ [])) (some_state is) (piece_more left f fs u (sign Edge ∷ []) (one (edge_atom (next_stand f))) (λ d. edge d (next_stand f)) h)
step_more left f fs u (sign (Repeat t)) h st' is = times_more left f fs u t f.last refl h st' (some_state is)
step_more left f fs u (sign Bar) h st' is =
    let f' : Frame = record { cut = f.cut; bars = Some (expr_of f); before = nothing; last = None } in
    subst (λ s. StateIs s.left s.inner s.outer (u ++ sign Bar ∷ [])) (some_state is)
    (state_more left f f' fs fs u (sign Bar ∷ []) (λ c w. held_more f f' fs c w (sign Bar ∷ []) (λ d x g. frame_bar d f x g) refl) h)
step_more left f fs u (sign Open) h st' is = open_more left f fs u h st' (nat_lt (length fs) 200) refl is
step_more left f fs u (sign Close) h st' is = close_more left f fs u h st' is
step_more left f fs u (sign Cut) h st' is = cut_more left f fs u h st' is

pub run_none : (ts : List Token) → run None ts ≡ None
run_none [] = refl
run_none (t ∷ ts) = run_none ts

pub run_more : (ts : List Token) (st : Option State) (u : List Token) → ((s : State) → st ≡ Some s → StateIs s.left s.inner s.outer u) → (st' : State) → run st ts ≡ Some st' →
    StateIs st'.left st'.inner st'.outer (u ++ ts)
run_more [] st u h st' is = subst (λ x. StateIs st'.left st'.inner st'.outer x) (sym (append-nil u)) (h st' is)
run_more (t ∷ ts) None u h st' is = let f : None ≡ Some st' = sym (run_none ts) ∙ is in cc
run_more (t ∷ ts) (Some s) u h st' is =
    subst (λ x. StateIs st'.left st'.inner st'.outer x) (append_assoc u (t ∷ []) ts)
    (run_more ts (step s t) (u ++ t ∷ []) (λ x e. step_more s.left s.inner s.outer u t (h s refl) x e) st' is)

finish_more : (left : Option Re) (f : Frame) (fs : List Frame) (u : List Token) (w : Whole) → StateIs left f fs u →
    finished (record { left = left; inner = f; outer = fs }) fs ≡ Some w → IsWhole u w
finish_more None f [] u w h is =
    let e : record { left = None; right = expr_of f } ≡ w = same_whole is in
    subst (λ x. IsWhole u x) e (plain u (expr_of f) (subst (λ c. IsExpr 0 c u (expr_of f)) h.1 (frame_expr 0 f u h.0)))
  where
    same_whole : {a b : Whole} → Some a ≡ Some b → a ≡ b
    same_whole e = cc
finish_more None f (g ∷ gs) u w h is = cc
finish_more (Some l) f [] u w h is =
    let e : record { left = Some l; right = expr_of f } ≡ w = same_whole is in
    subst (λ x. IsWhole u x) e (subst (λ x. IsWhole x (record { left = Some l; right = expr_of f })) (sym h.2)
    (with_cut h.0 h.1 l (expr_of f) h.3 (subst (λ c. IsExpr 0 c h.1 (expr_of f)) (h.4).1 (frame_expr 0 f h.1 (h.4).0))))
  where
    same_whole : {a b : Whole} → Some a ≡ Some b → a ≡ b
    same_whole e = cc
finish_more (Some l) f (g ∷ gs) u w h is = cc

read_more : (ts : List Token) (w : Whole) (st : Option State) → run (Some opening) ts ≡ st → finish st ≡ Some w → IsWhole ts w
read_more ts w None e is = cc
read_more ts w (Some s) e is =
    finish_more s.left s.inner s.outer ts w
    (run_more ts (Some opening) [] (λ x e. subst (λ y. StateIs y.left y.inner y.outer []) (some_state e) (frame_fresh 0 false, refl)) s e) is

-- what is read is spelled
pub reads_whole : (ts : List Token) (w : Whole) → reading ts ≡ Some w → IsWhole ts w
reads_whole ts w is = read_more ts w (run (Some opening) ts) refl is
