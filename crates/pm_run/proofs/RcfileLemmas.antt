-- Rcfiles that are opened by others.
use Rattle.std.proofs.Common.{◌≡◌, ◌<◌, ◌≤◌, ◌+◌, ◌∙◌, ℕ, List, [], ◌∷◌, true, false, Option, Some, None, Result, Ok, Err, IfOk, OnErr, length, drop, refl, sym, ap, subst, arith}
use Rattle.std.specs.Prelude.{◌-◌, ◌*◌, ◌^◌, nat_le}
use Rattle.std.proofs.lemmas.Bool.Decides.{nat_tests}
use Rattle.std.proofs.lemmas.List.{drop_all, length-map}
use Rattle.pm_journal.specs.Contents.{content_of}
use Rattle.pm_code.specs.Ahead.{lists_of}
use Rattle.pm_code.specs.Flat.{flat_of, flats_of, written}
use Rattle.pm_code.specs.declared.code.Code.{Code}
use Rattle.pm_recipe.specs.Listed.{rc_of}
use Rattle.pm_recipe.specs.Tree.{Trees}
use Rattle.pm_journal.specs.JournalState.{JournalState}
use Rattle.pm_journal.specs.Entries.{View}
use Rattle.pm_journal.specs.Executed.{Executes, OutOfMemory}
use Rattle.pm_journal.specs.LogText.{couldnt_read_line, too_many_rcfiles_line}
use Rattle.pm_journal.specs.Plan.{Plan, Ends, and_then, ask}
use Rattle.pm_journal.specs.Walking.{Next, Go, Reaches}
use Rattle.pm_journal.specs.declared.acts.Act.TheVariants.{ReadFile}
use Rattle.pm_journal.specs.declared.acts.Reply.{Reply}
use Rattle.pm_journal.specs.declared.acts.Reply.TheVariants.{Content}
use Rattle.pm_journal.proofs.ActPlans.{executes_then}
use Rattle.pm_journal.proofs.WalkJoin.{reaches_once}
use Rattle.pm_run.specs.RunningOut.{MayRunOut, RunsOut}
use Rattle.pm_run.proofs.MayLemmas.{may_at_once}
use Rattle.pm_run.proofs.RunOutLemmas.{ran_out_then}
use Rattle.pm_journal.proofs.WantsMemory.{executes_nothing, out_front, out_then, out_anywhere}
use Rattle.pm_vars.specs.Table.{Table}
use Rattle.pm_meaning.specs.declared.chain.Chain.{Chain}
use Rattle.pm_meaning.specs.Chains.{new_chain, with_chain}
use Rattle.pm_meaning.specs.Blocks.{begun_block}
use Rattle.pm_meaning.specs.Changes.{with_rcfile, opened}
use Rattle.pm_meaning.specs.Minds.{Mind}
use Rattle.pm_meaning.specs.Running.{State, Item, FileEnd, Running, Including, Switching, LeavingFile, ahead, Reading, with_statements, open_rcfile, included, switched, behind_file, step, Event}
use Rattle.pm_meaning.specs.Turns.{say_then}
use Rattle.pm_journal.specs.Acts.{ReadsWhole}
use Rattle.pm_meaning.proofs.Choices.{choose_then, choose_else, then_out, else_out}
use Rattle.pm_run.specs.Frames.{weave, steps_of, items_of, outer_items, block_locks, left_outside, left_in, left_over}
use Rattle.pm_run.specs.Rcfiles.{GoesInto, TakesPlace, HasCode, ReadsCode, OpensSome, OpensNone, Opens}
use Rattle.pm_run.specs.declared.frames.Frames.{Frames}
use Rattle.pm_run.proofs.FrameLemmas.{in_file_woven, after_woven, weave_over}
use Rattle.pm_run.proofs.WalkLemmas.{whole_items}

abbrev Onward : Type 0
Onward = Next State Event

-- a clause for every `next`, on either answer
pub ok_every : {A T E : Type 0} (r : Result T E) (P : A → T → Type 0) → ((n : A) → IfOk r (P n)) → IfOk r (λ x. (n : A) → P n x)
ok_every (Ok x) P h = h
ok_every (Err e) P h = tt

pub err_every : {A T E : Type 0} (r : Result T E) (P : A → Type 0) → ((n : A) → OnErr r (P n)) → OnErr r ((n : A) → P n)
err_every (Ok x) P h = tt
err_every (Err e) P h = h

-- what holds of an answer by two facts
pub ok_both : {T E : Type 0} (r : Result T E) (P Q R : T → Type 0) → ((x : T) → P x → Q x → R x) → IfOk r P → IfOk r Q → IfOk r R
ok_both (Ok x) P Q R f h k = f x h k
ok_both (Err e) P Q R f h k = tt

-- a state was reached, and then memory was wanting
pub reached_wants : (s : State) (items : List Item) (p : Mind) (x y : JournalState) (a b : View) → Reaches {X = Event} step s (Running items p) x y a b → RunsOut {X = Event} step MayRunOut s x y a b
reached_wants s items p x y a b h =
    ran_out_then step MayRunOut s (Running items p) x y y a b b h (out_anywhere (step (Running items p)) y y b refl) (may_at_once items p y)

-- what comes after a reading, by what was read
read_some : (name rc : List ℕ) (rest : List Item) (p : Mind) (go : Reading) (reply : Reply) → Some rc ≡ content_of reply → Ends (go (rc_of rc) p) ≡ with_statements name rest p go reply
read_some name rc rest p go (Content bytes) e = let f : rc ≡ bytes = cc in ap (λ b. Ends (go (rc_of b) p)) f
read_some name rc rest p go other e = absurd (cc)

read_none : (name : List ℕ) (rest : List Item) (p : Mind) (go : Reading) (reply : Reply) → None ≡ content_of reply → say_then p (couldnt_read_line name) (Go (Running rest p)) ≡ with_statements name rest p go reply
read_none name rest p go (Content bytes) e = absurd (cc)
read_none name rest p go other e = refl

-- the rcfile was noted under its name
module _ (name noted : List ℕ) (content : Option (List ℕ)) (p : Mind) (x y : JournalState) (a b : View) (same : noted ≡ name) (h : ReadsWhole noted content x y a b) where
  asked : Executes (ask (ReadFile name)) h.reply x y a b
  asked = subst (λ n. Executes (ask (ReadFile n)) h.reply x y a b) same h.executes

  pub reads_some : (rc text : List ℕ) (code : Option Code) → content ≡ Some rc → text ≡ rc → HasCode code (rc_of text) → ReadsCode name code p x y a b
  reads_some rc text None is t w = absurd w
  reads_some rc text (Some code) is t w = record {
    trees = rc_of rc;
    has_code = w ∙ ap (λ s. written 0 (rc_of s)) t;
    reads = λ rest go. executes_then (ask (ReadFile name)) (with_statements name rest p go) h.reply (go (rc_of rc) p) x y y a b b asked
        (subst (λ plan. Executes plan (go (rc_of rc) p) y y b b) (read_some name rc rest p go h.reply (sym is ∙ h.content_is)) (executes_nothing (go (rc_of rc) p) y y b refl));
  }

  pub reads_then_wants : (rest : List Item) (go : Reading) → OutOfMemory (and_then (ask (ReadFile name)) (with_statements name rest p go)) x y a b
  reads_then_wants rest go = out_then (ask (ReadFile name)) (with_statements name rest p go) h.reply x y y a b b asked (out_anywhere (with_statements name rest p go h.reply) y y b refl)

  none_read : (rest : List Item) (go : Reading) (z : JournalState) (c : View) → content ≡ None → Executes {R = Onward} (say_then p (couldnt_read_line name) (Go (Running rest p))) (Go (Running rest p)) y z b c
      → Executes {R = Onward} (and_then (ask (ReadFile name)) (with_statements name rest p go)) (Go (Running rest p)) x z a c
  none_read rest go z c is k =
      executes_then (ask (ReadFile name)) (with_statements name rest p go) h.reply (Go (Running rest p)) x y z a b c asked
      (subst (λ plan. Executes plan (Go (Running rest p)) y z b c) (read_none name rest p go h.reply (sym is ∙ h.content_is)) k)

  pub reads_none : (code : Option Code) (z : JournalState) (c : View) → content ≡ None → code ≡ None → ((next : Onward) → Executes (say_then p (couldnt_read_line name) next) next y z b c) → ReadsCode name code p x z a c
  reads_none code z c is none k = subst (λ q. ReadsCode name q p x z a c) (sym none) (λ rest go. none_read rest go z c is (k (Go (Running rest p))))

  pub reads_none_out : (rest : List Item) (go : Reading) (z : JournalState) (c : View) → content ≡ None → OutOfMemory {R = Onward} (say_then p (couldnt_read_line name) (Go (Running rest p))) y z b c
      → OutOfMemory (and_then (ask (ReadFile name)) (with_statements name rest p go)) x z a c
  reads_none_out rest go z c is k =
      out_then (ask (ReadFile name)) (with_statements name rest p go) h.reply x y z a b c asked
      (subst (λ plan. OutOfMemory plan y z b c) (read_none name rest p go h.reply (sym is ∙ h.content_is)) k)

pub reading_out : (name noted : List ℕ) (rest : List Item) (p : Mind) (go : Reading) (x y : JournalState) (a b : View) → noted ≡ name → OutOfMemory (ask (ReadFile noted)) x y a b
    → OutOfMemory (and_then (ask (ReadFile name)) (with_statements name rest p go)) x y a b
reading_out name noted rest p go x y a b same h =
    out_front (ask (ReadFile name)) (with_statements name rest p go) x y a b (subst (λ n. OutOfMemory (ask (ReadFile n)) x y a b) same h)

-- the run has opened as many as it may, or fewer
abbrev say_many : List ℕ → List Item → Mind → Plan Onward
say_many name rest p = say_then p (too_many_rcfiles_line name) (Go (Running rest p))

abbrev read_on : List ℕ → List Item → Mind → Reading → Plan Onward
read_on name rest p go = and_then (ask (ReadFile name)) (with_statements name rest (opened p) go)

-- a count that is tested
pub is_many : (n : ℕ) → 256 ≤ n → nat_le 256 n ≡ true
is_many n h = grind (arith, nat_tests)

pub is_few : (n : ℕ) → n < 256 → (nat_le 256 n ≡ false) × (n < 256)
is_few n h = (grind (arith, nat_tests), h)

-- the line, and then what is left
pub told_for : (rest : List Item) (p : Mind) (line : List ℕ) (x y : JournalState) (a b : View) → ((next : Onward) → OutOfMemory {R = Onward} (say_then p line next) x y a b) → OutOfMemory {R = Onward} (say_then p line (Go (Running rest p))) x y a b
told_for rest p line x y a b h = h (Go (Running rest p))

pub many_told : (name : List ℕ) (p : Mind) (x y : JournalState) (a b : View) → nat_le 256 p.openings ≡ true → (code : Option Code) → code ≡ None → ((next : Onward) → Executes (say_then p (too_many_rcfiles_line name) next) next x y a b) → Opens name code p p x y a b
many_told name p x y a b e code none h = subst (λ c. Opens name c p p x y a b) (sym none) (record {
  counted = omega arith;
  opens = λ rest go. choose_then (nat_le 256 p.openings) (say_many name rest p) (read_on name rest p go) (Go (Running rest p)) x y a b e (h (Go (Running rest p)));
})

pub many_out : (name : List ℕ) (p : Mind) (rest : List Item) (go : Reading) (x y : JournalState) (a b : View) → nat_le 256 p.openings ≡ true → ((next : Onward) → OutOfMemory (say_then p (too_many_rcfiles_line name) next) x y a b)
    → OutOfMemory (open_rcfile name rest p go) x y a b
many_out name p rest go x y a b e h = then_out (nat_le 256 p.openings) (say_many name rest p) (read_on name rest p go) x y a b e (h (Go (Running rest p)))

pub opens_by : (name : List ℕ) (code : Option Code) (p q : Mind) (x y : JournalState) (a b : View) → nat_le 256 p.openings ≡ false → p.openings < 256 → q ≡ opened p → ReadsCode name code q x y a b → Opens name code p q x y a b
opens_by name None p q x y a b e few is h =
    let counted : q.openings ≡ p.openings + 1 = ap (λ (m : Mind). m.openings) is in
    record {
      counted = omega (arith, counted);
      opens = λ rest go. choose_else (nat_le 256 p.openings) (say_many name rest p) (read_on name rest p go) (Go (Running rest q)) x y a b e
          (subst (λ m. Executes (and_then (ask (ReadFile name)) (with_statements name rest m go)) (Go (Running rest q)) x y a b) is (h rest go));
    }
opens_by name (Some code) p q x y a b e few is h = record {
  few = few;
  counted = ap (λ (m : Mind). m.openings) is;
  rcfile = ap (λ (m : Mind). m.rcfile) is;
  trees = h.trees;
  has_code = h.has_code;
  opens = λ rest go. choose_else (nat_le 256 p.openings) (say_many name rest p) (read_on name rest p go) (go h.trees q) x y a b e
      (subst (λ m. Executes (and_then (ask (ReadFile name)) (with_statements name rest m go)) (go h.trees q) x y a b) is (h.reads rest go));
}

pub opens_out : (name : List ℕ) (p q : Mind) (rest : List Item) (go : Reading) (x y : JournalState) (a b : View) → nat_le 256 p.openings ≡ false → q ≡ opened p
    → OutOfMemory (and_then (ask (ReadFile name)) (with_statements name rest q go)) x y a b → OutOfMemory (open_rcfile name rest p go) x y a b
opens_out name p q rest go x y a b e is h =
    else_out (nat_le 256 p.openings) (say_many name rest p) (read_on name rest p go) x y a b e (subst (λ m. OutOfMemory (and_then (ask (ReadFile name)) (with_statements name rest m go)) x y a b) is h)

-- no rcfile was opened
pub none_included : (name : List ℕ) (rest : List Item) (p q : Mind) (x y : JournalState) (a b : View) → OpensNone name p q x y a b → Reaches {X = Event} step (Including name rest p) (Running rest q) x y a b
none_included name rest p q x y a b h = reaches_once step (Including name rest p) (Running rest q) x y a b (h.opens rest (included name rest))

pub none_switched : (name : List ℕ) (rest : List Item) (p q : Mind) (x y : JournalState) (a b : View) → OpensNone name p q x y a b → Reaches {X = Event} step (Switching name rest p) (Running rest q) x y a b
none_switched name rest p q x y a b h = reaches_once step (Switching name rest p) (Running rest q) x y a b (h.opens rest (switched name rest))

pub none_falls : (n m : ℕ) (f : Frames) → n ≤ m → left_over m f ≤ left_over n f
none_falls n m f h = omega (arith, h)

-- the statements of code that begins, with these rcfiles after it
begun_items : (g : Frames) (code : Code) (trees : Trees) → g.code ≡ code → g.place ≡ 0 → g.blocks.items ≡ [] → flats_of code.steps.items ≡ written 0 trees → ahead trees (outer_items g.outer.items) ≡ items_of g
begun_items g code trees c k b w =
    let rest = outer_items g.outer.items in
    sym (whole_items (flats_of code.steps.items) trees [] rest w refl) ∙ ap (λ q. weave (lists_of (drop 0 (flats_of q.steps.items))) [] rest) (sym c)
    ∙ ap (λ n. weave (lists_of (drop n (steps_of g))) [] rest) (sym k) ∙ ap (λ l. weave (lists_of (drop g.place (steps_of g))) l rest) (sym b)

small_code : (code : Code) → length code.steps.items < 2 ^ 63
small_code code = omega (arith, code.steps.ok, code.steps.small)

-- an rcfile was opened and included
module _ (name : List ℕ) (code : Code) (f : Frames) (p q : Mind) (x y : JournalState) (a b : View) (h : OpensSome name code p q x y a b) where
  abbrev within : Onward
  within = included name (items_of f) h.trees q

  pub some_wants : RunsOut {X = Event} step MayRunOut (Including name (items_of f) p) x y a b
  some_wants = reached_wants (Including name (items_of f) p) (ahead h.trees (FileEnd q.rcfile ∷ items_of f)) (with_rcfile name q) x y a b
      (reaches_once step (Including name (items_of f) p) (Running (ahead h.trees (FileEnd q.rcfile ∷ items_of f)) (with_rcfile name q)) x y a b (h.opens (items_of f) (included name (items_of f))))

  pub some_included : (g : Frames) (r : Mind) → GoesInto name code f g q r → Reaches {X = Event} step (Including name (items_of f) p) (Running (items_of g) r) x y a b
  some_included g r into =
      let same : ahead h.trees (FileEnd q.rcfile ∷ items_of f) ≡ items_of g =
      ap (λ ws. ahead h.trees (outer_items ws)) (sym into.outer) ∙ begun_items g code h.trees into.code_is into.place into.blocks h.has_code in
      let next : within ≡ Go (Running (items_of g) r) = ap (λ items. Go (Running items (with_rcfile name q))) same ∙ ap (λ m. Go (Running (items_of g) m)) (sym into.mind) in
      reaches_once step (Including name (items_of f) p) (Running (items_of g) r) x y a b (subst (λ n. Executes (open_rcfile name (items_of f) p (included name (items_of f))) n x y a b) next (h.opens (items_of f) (included name (items_of f))))

  pub some_falls : (g : Frames) (r : Mind) → GoesInto name code f g q r → left_over r.openings g ≤ left_over p.openings f
  some_falls g r into =
      let count : r.openings ≡ p.openings + 1 = ap (λ (m : Mind). m.openings) into.mind ∙ h.counted in
      let outside : left_outside g.outer.items ≡ 1 + 2 * (length f.code.steps.items - f.place) + length f.blocks.items + left_outside f.outer.items = ap left_outside into.outer in
      let left : left_in g ≤ left_in f + 2 ^ 66 = omega (arith, outside, small_code code, ap (λ c. length c.steps.items) into.code_is, into.place, ap length into.blocks) in
      omega (arith, h.few, count, left)

  -- it takes the place of the current one
  pub some_switched : Reaches {X = Event} step (Switching name (items_of f) p) (LeavingFile (block_locks f.blocks.items) (ahead h.trees (outer_items f.outer.items)) (begun_block (with_rcfile name q))) x y a b
  some_switched =
      let lists = lists_of (drop f.place (steps_of f)) in
      let mind = begun_block (with_rcfile name q) in
      let to = LeavingFile (block_locks f.blocks.items) (ahead h.trees (outer_items f.outer.items)) mind in
      let same : switched name (items_of f) h.trees q ≡ Go to =
      ap (λ l. Go (LeavingFile l (ahead h.trees (behind_file (items_of f))) mind)) (in_file_woven lists f.blocks.items f.outer.items)
      ∙ ap (λ items. Go (LeavingFile (block_locks f.blocks.items) (ahead h.trees items) mind)) (after_woven lists f.blocks.items f.outer.items) in
      reaches_once step (Switching name (items_of f) p) to x y a b (subst (λ n. Executes (open_rcfile name (items_of f) p (switched name (items_of f))) n x y a b) same (h.opens (items_of f) (switched name (items_of f))))

  pub place_taken : (g : Frames) → TakesPlace code f g → ahead h.trees (outer_items f.outer.items) ≡ items_of g
  place_taken g takes = ap (λ ws. ahead h.trees (outer_items ws.items)) (sym takes.outer) ∙ begun_items g code h.trees takes.code_is takes.place takes.blocks h.has_code

  pub place_falls : (g : Frames) (count : ℕ) → count ≡ q.openings → TakesPlace code f g → left_over count g ≤ left_over p.openings f
  place_falls g count is takes =
      let left : left_in g ≤ left_in f + 2 ^ 66 = omega (arith, small_code code, ap (λ c. length c.steps.items) takes.code_is, takes.place, ap length takes.blocks, ap (λ o. left_outside o.items) takes.outer) in
      omega (arith, h.few, is, h.counted, left)

-- the process with another rcfile and a new chain
taken_mind : (name : List ℕ) (p : Mind) (vars : Table) (chain : Chain) → vars ≡ record p.vars { marks = record p.vars.marks { rcfile = name } } → chain ≡ new_chain → record p { vars = vars; rcfile = name; chain = chain } ≡ begun_block (with_rcfile name p)
taken_mind name p vars chain v c = ap (λ w. record p { vars = w; rcfile = name; chain = chain }) v ∙ ap (λ k. with_chain k (with_rcfile name p)) c

pub taken : (name : List ℕ) (p : Mind) (vars : Table) (chain : Chain) (P : Mind → Type 0) → vars ≡ record p.vars { marks = record p.vars.marks { rcfile = name } } → chain ≡ new_chain → P (record p { vars = vars; rcfile = name; chain = chain })
    → P (begun_block (with_rcfile name p))
taken name p vars chain P v c h = subst P (taken_mind name p vars chain v c) h

-- nothing is left of the current rcfile
pub ended_items : (f g : Frames) → g.code ≡ f.code → length f.code.steps.items ≤ g.place → g.blocks.items ≡ [] → g.outer ≡ f.outer → outer_items f.outer.items ≡ items_of g
ended_items f g c k b o =
    let long : length (steps_of g) ≤ g.place = omega (arith, k, ap (λ q. length q.steps.items) c, length-map g.code.steps.items flat_of) in
    ap (λ q. outer_items q.items) (sym o) ∙ sym (weave_over (drop g.place (steps_of g)) (outer_items g.outer.items) (drop_all g.place (steps_of g) long))
    ∙ ap (λ l. weave (lists_of (drop g.place (steps_of g))) l (outer_items g.outer.items)) (sym b)

pub ended_falls : (f g : Frames) (n m : ℕ) → m ≡ n → g.code ≡ f.code → length f.code.steps.items ≤ g.place → g.blocks.items ≡ [] → g.outer ≡ f.outer → left_over m g ≤ left_over n f
ended_falls f g n m e c k b o =
    let left : left_in g ≤ left_in f = omega (arith, k, ap (λ q. length q.steps.items) c, ap length b, ap (λ q. left_outside q.items) o) in
    subst (λ i. left_over i g ≤ left_over n f) (sym e) (omega (arith, left))
