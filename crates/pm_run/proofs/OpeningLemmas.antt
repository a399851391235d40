-- The rcfiles of the command line, one after the other.
use Rattle.std.proofs.Common.{◌≡◌, ◌<◌, ◌≤◌, ◌+◌, ◌∙◌, ℕ, Bool, List, [], ◌∷◌, ◌++◌, true, false, Option, Some, None, ControlFlow, Continue, Break, length, drop, reverse, refl, sym, ap, subst, arith}
use Rattle.std.specs.Prelude.{◌^◌, nat_le, nat_eq, codes, not, ◌&&◌, if◌then◌else◌}
use Rattle.std.specs.List.{starts_with}
use Rattle.std.proofs.lemmas.Bool.Decides.{nat_tests}
use Rattle.pm_journal.specs.Contents.{content_of}
use Rattle.pm_code.specs.Ahead.{lists_of}
use Rattle.pm_code.specs.Flat.{flats_of, written}
use Rattle.pm_code.proofs.Reading.{lists-whole}
use Rattle.pm_code.specs.declared.code.Code.{Code}
use Rattle.pm_recipe.specs.Listed.{rc_of}
use Rattle.pm_recipe.specs.Tree.{Trees}
use Rattle.pm_journal.specs.JournalState.{JournalState}
use Rattle.pm_journal.specs.Entries.{View}
use Rattle.pm_journal.specs.Executed.{Executes, OutOfMemory}
use Rattle.pm_journal.specs.LogText.{couldnt_read_line, too_many_rcfiles_line}
use Rattle.pm_journal.specs.Outcomes.{last_missing, is_missing as missing_in}
use Rattle.pm_journal.specs.Plan.{Plan, Ends, and_then, ask}
use Rattle.pm_journal.specs.Walking.{Next, Go, Reaches}
use Rattle.pm_journal.specs.declared.acts.Act.TheVariants.{ReadFile}
use Rattle.pm_journal.specs.declared.acts.Reply.{Reply}
use Rattle.pm_journal.specs.declared.acts.Reply.TheVariants.{Content, Missing}
use Rattle.pm_journal.proofs.ActPlans.{executes_then}
use Rattle.pm_journal.proofs.WalkJoin.{reaches_then}
use Rattle.pm_run.specs.RunningOut.{MayRunOut, RunsOut}
use Rattle.pm_run.proofs.RunOutLemmas.{ran_out_then}
use Rattle.pm_journal.proofs.WantsMemory.{executes_nothing, out_front, out_then, out_anywhere}
use Rattle.pm_meaning.specs.Blocks.{begun_block}
use Rattle.pm_meaning.specs.Changes.{with_base, with_variable, with_rcfile, opened}
use Rattle.pm_meaning.specs.Logging.{log, logged}
use Rattle.pm_meaning.specs.Minds.{Mind}
use Rattle.pm_meaning.specs.Turns.{say_then}
use Rattle.pm_meaning.specs.declared.process.End.{End}
use Rattle.pm_meaning.specs.declared.process.End.TheVariants.{NoRc, HostOff}
use Rattle.pm_meaning.specs.Running.{State, Event, Running, Over, Opening, OpeningRule, ahead, entered, is_first, is_missing, with_later, left_by, open_next, after_read, pass_over, step}
use Rattle.pm_run.specs.Frames.{weave, items_of, outer_items, left_outside, left_in, left_over}
use Rattle.pm_run.specs.declared.frames.Frames.{Frames}
use Rattle.pm_journal.specs.Acts.{ReadsWhole}
use Rattle.pm_meaning.proofs.Choices.{choose_then, choose_else, then_out, else_out, line_told, line_out}
use Rattle.pm_run.specs.Ends.{IsCode, opened_at}
use Rattle.std.proofs.lemmas.List.{reverse-append}
use Rattle.pm_run.specs.Opening.{OpensTo, OpensOne, OpensFrom, OpensCode, ReadsTo, ReadsOne, ReadsCode, PassesTo, PassesOver}

abbrev Onward : Type 0
Onward = Next State Event

-- the rcfile that wasn't read is told, unless it is the user's own and missing
abbrev told_next : OpeningRule → List ℕ → List (List ℕ) → Mind → Plan Onward
told_next o name names p = say_then p (couldnt_read_line name) (Go (Opening o names p))

abbrev unless_own : OpeningRule → List ℕ → List (List ℕ) → Bool → Mind → Plan Onward
unless_own o name names missing p = if o.is_implied && missing then Ends (Go (Opening o names p)) else told_next o name names p

pub passes_filter : (o : OpeningRule) (name : List ℕ) (missing : Bool) (p : Mind) (x : JournalState) (s : View) → p.filter ≡ true → PassesTo o name missing p (λ names. Over NoRc p) x x s s
passes_filter o name missing p x s e =
    λ names. choose_then p.filter (Ends (Go (Over NoRc p))) (unless_own o name names missing p) (Go (Over NoRc p)) x x s s e (executes_nothing (Go (Over NoRc p)) x x s refl)

pub passes_own : (o : OpeningRule) (name : List ℕ) (missing : Bool) (p : Mind) (x : JournalState) (s : View) → p.filter ≡ false → (o.is_implied && missing) ≡ true → PassesTo o name missing p (λ names. Opening o names p) x x s s
passes_own o name missing p x s e own =
    λ names. choose_else p.filter (Ends (Go (Over NoRc p))) (unless_own o name names missing p) (Go (Opening o names p)) x x s s e
    (choose_then (o.is_implied && missing) (Ends (Go (Opening o names p))) (told_next o name names p) (Go (Opening o names p)) x x s s own (executes_nothing (Go (Opening o names p)) x x s refl))

pub passes_told : (o : OpeningRule) (name line : List ℕ) (missing : Bool) (p : Mind) (x y : JournalState) (a b : View) → p.filter ≡ false → (o.is_implied && missing) ≡ false → line ≡ couldnt_read_line name
    → Executes (log line p) logged x y a b → PassesTo o name missing p (λ names. Opening o names p) x y a b
passes_told o name line missing p x y a b e own is h =
    λ names. choose_else p.filter (Ends (Go (Over NoRc p))) (unless_own o name names missing p) (Go (Opening o names p)) x y a b e
    (choose_else (o.is_implied && missing) (Ends (Go (Opening o names p))) (told_next o name names p) (Go (Opening o names p)) x y a b own
    (line_told p (couldnt_read_line name) line (Go (Opening o names p)) x y a b is h))

pub passes_out : (o : OpeningRule) (name line : List ℕ) (missing : Bool) (p : Mind) (x y : JournalState) (a b : View) → p.filter ≡ false → (o.is_implied && missing) ≡ false → line ≡ couldnt_read_line name
    → OutOfMemory (log line p) x y a b → (names : List (List ℕ)) → OutOfMemory (pass_over o name names missing p) x y a b
passes_out o name line missing p x y a b e own is h =
    λ names. else_out p.filter (Ends (Go (Over NoRc p))) (unless_own o name names missing p) x y a b e
    (else_out (o.is_implied && missing) (Ends (Go (Opening o names p))) (told_next o name names p) x y a b own
    (line_out p (couldnt_read_line name) line (Go (Opening o names p)) x y a b is h))

-- what comes after a reading, by what was read
abbrev begins : OpeningRule → List ℕ → List (List ℕ) → Mind → Trees → Onward
begins o name names p trees = Go (Running (ahead trees []) (begun_block (entered o name (with_later names p))))

after_content : (o : OpeningRule) (name rc : List ℕ) (names : List (List ℕ)) (p : Mind) (reply : Reply) → Some rc ≡ content_of reply → Ends (begins o name names p (rc_of rc)) ≡ after_read o name names p reply
after_content o name rc names p (Content bytes) e = let f : rc ≡ bytes = cc in ap (λ b. Ends (begins o name names p (rc_of b))) f
after_content o name rc names p other e = absurd (cc)

after_other : (o : OpeningRule) (name : List ℕ) (names : List (List ℕ)) (p : Mind) (reply : Reply) → None ≡ content_of reply → pass_over o name names (is_missing reply) p ≡ after_read o name names p reply
after_other o name names p (Content bytes) e = absurd (cc)
after_other o name names p other e = refl

same_missing : (reply : Reply) → missing_in reply ≡ is_missing reply
same_missing Missing = refl
same_missing other = refl

-- the rcfile was noted under its name
module _ (o : OpeningRule) (name noted : List ℕ) (content : Option (List ℕ)) (p : Mind) (x y : JournalState) (a b : View) (same : noted ≡ name) (h : ReadsWhole noted content x y a b) where
  asked : Executes (ask (ReadFile name)) h.reply x y a b
  asked = subst (λ n. Executes (ask (ReadFile n)) h.reply x y a b) same h.executes

  pub reads_code : (rc text : List ℕ) (code : Code) (q : Mind) → content ≡ Some rc → text ≡ rc → IsCode code (rc_of text) → q ≡ entered o name p → ReadsCode o name code p q x y a b
  reads_code rc text code q is t w e = record {
    mind = e;
    trees = rc_of rc;
    is_code = w ∙ ap (λ s. written 0 (rc_of s)) t;
    reads = λ names. executes_then (ask (ReadFile name)) (after_read o name names p) h.reply (begins o name names p (rc_of rc)) x y y a b b asked
        (subst (λ plan. Executes plan (begins o name names p (rc_of rc)) y y b b) (after_content o name rc names p h.reply (sym is ∙ h.content_is)) (executes_nothing (begins o name names p (rc_of rc)) y y b refl));
  }

  pub read_then_wants : (names : List (List ℕ)) → OutOfMemory (and_then (ask (ReadFile name)) (after_read o name names p)) x y a b
  read_then_wants names = out_then (ask (ReadFile name)) (after_read o name names p) h.reply x y y a b b asked (out_anywhere (after_read o name names p h.reply) y y b refl)

  -- it has no content
  passed : (missing : Bool) (names : List (List ℕ)) → content ≡ None → missing ≡ last_missing y.entries → pass_over o name names missing p ≡ after_read o name names p h.reply
  passed missing names none is = ap (λ m. pass_over o name names m p) (is ∙ (h.missing ∙ same_missing h.reply)) ∙ after_other o name names p h.reply (sym none ∙ h.content_is)

  passed_to : (missing : Bool) (to : List (List ℕ) → State) (z : JournalState) (c : View) → content ≡ None → missing ≡ last_missing y.entries → PassesTo o name missing p to y z b c → ReadsTo o name p to x z a c
  passed_to missing to z c none is k =
      λ names. executes_then (ask (ReadFile name)) (after_read o name names p) h.reply (Go (to names)) x y z a b c asked
      (subst (λ plan. Executes plan (Go (to names)) y z b c) (passed missing names none is) (k names))

  pub reads_none : (missing : Bool) (tried : ControlFlow End (Option Code)) (z : JournalState) (c : View) → content ≡ None → missing ≡ last_missing y.entries → PassesOver o name missing tried p y z b c → ReadsOne o name tried p p x z a c
  reads_none missing (Continue (Some code)) z c none is k = absurd k
  reads_none missing (Break end) z c none is k = (refl, passed_to missing (λ names. Over end p) z c none is k)
  reads_none missing (Continue None) z c none is k = (refl, passed_to missing (λ names. Opening o names p) z c none is k)

  pub reads_none_out : (missing : Bool) (z : JournalState) (c : View) → content ≡ None → missing ≡ last_missing y.entries → ((names : List (List ℕ)) → OutOfMemory (pass_over o name names missing p) y z b c)
      → (names : List (List ℕ)) → OutOfMemory (and_then (ask (ReadFile name)) (after_read o name names p)) x z a c
  reads_none_out missing z c none is k =
      λ names. out_then (ask (ReadFile name)) (after_read o name names p) h.reply x y z a b c asked
      (subst (λ plan. OutOfMemory plan y z b c) (passed missing names none is) (k names))

pub reading_out : (o : OpeningRule) (name noted : List ℕ) (p : Mind) (x y : JournalState) (a b : View) → noted ≡ name → OutOfMemory (ask (ReadFile noted)) x y a b
    → (names : List (List ℕ)) → OutOfMemory (and_then (ask (ReadFile name)) (after_read o name names p)) x y a b
reading_out o name noted p x y a b same h =
    λ names. out_front (ask (ReadFile name)) (after_read o name names p) x y a b (subst (λ n. OutOfMemory (ask (ReadFile n)) x y a b) same h)

-- a count that is tested
pub is_many : (n : ℕ) → 256 ≤ n → nat_le 256 n ≡ true
is_many n h = grind (arith, nat_tests)

pub is_few : (n : ℕ) → n < 256 → nat_le 256 n ≡ false
is_few n h = grind (arith, nat_tests)

-- the run has opened as many as it may, or fewer
abbrev say_many : OpeningRule → List ℕ → List (List ℕ) → Mind → Plan Onward
say_many o name names p = say_then p (too_many_rcfiles_line name) (Go (Opening o names p))

abbrev read_on : OpeningRule → List ℕ → List (List ℕ) → Mind → Plan Onward
read_on o name names p = and_then (ask (ReadFile name)) (after_read o name names p)

pub many_told : (o : OpeningRule) (name line : List ℕ) (p : Mind) (x y : JournalState) (a b : View) → nat_le 256 p.openings ≡ true → line ≡ too_many_rcfiles_line name → Executes (log line p) logged x y a b → OpensOne o name (Continue None) p p x y a b
many_told o name line p x y a b e is h = record {
  counted = omega arith;
  opens = λ names. choose_then (nat_le 256 p.openings) (say_many o name names p) (read_on o name names (opened p)) (Go (Opening o names p)) x y a b e
      (line_told p (too_many_rcfiles_line name) line (Go (Opening o names p)) x y a b is h);
}

pub many_out : (o : OpeningRule) (name line : List ℕ) (p : Mind) (x y : JournalState) (a b : View) → nat_le 256 p.openings ≡ true → line ≡ too_many_rcfiles_line name → OutOfMemory (log line p) x y a b
    → (names : List (List ℕ)) → OutOfMemory (open_next o (name ∷ names) p) x y a b
many_out o name line p x y a b e is h =
    λ names. then_out (nat_le 256 p.openings) (say_many o name names p) (read_on o name names (opened p)) x y a b e
    (line_out p (too_many_rcfiles_line name) line (Go (Opening o names p)) x y a b is h)

opens_to : (o : OpeningRule) (name : List ℕ) (p : Mind) (to : List (List ℕ) → State) (x y : JournalState) (a b : View) → nat_le 256 p.openings ≡ false → ReadsTo o name (opened p) to x y a b → OpensTo o name p to x y a b
opens_to o name p to x y a b e h =
    λ names. choose_else (nat_le 256 p.openings) (say_many o name names p) (read_on o name names (opened p)) (Go (to names)) x y a b e (h names)

pub opens_by : (o : OpeningRule) (name : List ℕ) (tried : ControlFlow End (Option Code)) (p q : Mind) (x y : JournalState) (a b : View) → p.openings < 256 → ReadsOne o name tried (opened p) q x y a b → OpensOne o name tried p q x y a b
opens_by o name (Continue (Some code)) p q x y a b few h = record {
  few = few;
  mind = h.mind;
  trees = h.trees;
  is_code = h.is_code;
  opens = opens_to o name p (λ names. Running (ahead h.trees []) (begun_block (entered o name (with_later names (opened p))))) x y a b (is_few p.openings few) h.reads;
}
opens_by o name (Break end) p q x y a b few h =
    subst (λ r. OpensTo o name p (λ names. Over end r) x y a b) (sym h.0) (opens_to o name p (λ names. Over end (opened p)) x y a b (is_few p.openings few) h.1)
opens_by o name (Continue None) p q x y a b few h =
    let counted : q.openings ≡ p.openings + 1 = ap (λ (m : Mind). m.openings) h.0 in
    record {
      counted = omega (arith, counted);
      opens = subst (λ r. OpensTo o name p (λ names. Opening o names r) x y a b) (sym h.0) (opens_to o name p (λ names. Opening o names (opened p)) x y a b (is_few p.openings few) h.1);
    }

pub opens_out : (o : OpeningRule) (name : List ℕ) (p : Mind) (x y : JournalState) (a b : View) → p.openings < 256
    → ((names : List (List ℕ)) → OutOfMemory (and_then (ask (ReadFile name)) (after_read o name names (opened p))) x y a b) → (names : List (List ℕ)) → OutOfMemory (open_next o (name ∷ names) p) x y a b
opens_out o name p x y a b few h =
    λ names. else_out (nat_le 256 p.openings) (say_many o name names p) (read_on o name names (opened p)) x y a b (is_few p.openings few) (h names)

-- the others are noted before or after the entering
entered_by : (b : Bool) (name : List ℕ) (names : List (List ℕ)) (p : Mind)
    → with_later names (if b then with_base (codes ".") (with_variable (codes "MAILDIR") (codes ".") (with_rcfile name p)) else with_rcfile name p)
    ≡ (if b then with_base (codes ".") (with_variable (codes "MAILDIR") (codes ".") (with_rcfile name (with_later names p))) else with_rcfile name (with_later names p))
entered_by true name names p = refl
entered_by false name names p = refl

entered_later : (o : OpeningRule) (name : List ℕ) (names : List (List ℕ)) (p : Mind) → with_later names (entered o name p) ≡ entered o name (with_later names p)
entered_later o name names p = entered_by (is_first p && starts_with nat_eq name (codes "./") && not o.keeps_folder) name names p

openings_by : (b : Bool) (name : List ℕ) (p q : Mind) → q ≡ (if b then with_base (codes ".") (with_variable (codes "MAILDIR") (codes ".") (with_rcfile name p)) else with_rcfile name p) → q.openings ≡ p.openings
openings_by true name p q e = ap (λ (m : Mind). m.openings) e
openings_by false name p q e = ap (λ (m : Mind). m.openings) e

pub openings_entered : (o : OpeningRule) (name : List ℕ) (p q : Mind) → q ≡ entered o name p → q.openings ≡ p.openings
openings_entered o name p q e = openings_by (is_first p && starts_with nat_eq name (codes "./") && not o.keeps_folder) name p q e

-- the last of these names comes first
pub last_first : (names rest : List (List ℕ)) (name : List ℕ) → names ≡ rest ++ name ∷ [] → reverse names ≡ name ∷ reverse rest
last_first names rest name e = ap reverse e ∙ reverse-append rest (name ∷ [])

-- from these rcfiles on: one of them was tried
module _ (s : State) (o : OpeningRule) (items rest : List (List ℕ)) (name : List ℕ) (p q : Mind) (x y z : JournalState) (a b c : View) (e : items ≡ name ∷ rest) (h : Reaches {X = Event} step s (Opening o items p) x y a b) where
  reached : Reaches {X = Event} step s (Opening o (name ∷ rest) p) x y a b
  reached = subst (λ l. Reaches {X = Event} step s (Opening o l p) x y a b) e h

  pub opening_on : OpensOne o name (Continue None) p q y z b c → Reaches {X = Event} step s (Opening o rest q) x z a c
  opening_on k = reaches_then step s (Opening o (name ∷ rest) p) (Opening o rest q) x y z a b c reached (k.opens rest)

  pub opening_ends : (end : End) → OpensOne o name (Break end) p q y z b c → Reaches {X = Event} step s (Over end q) x z a c
  opening_ends end k = reaches_then step s (Opening o (name ∷ rest) p) (Over end q) x y z a b c reached (k rest)

  pub opening_reads : (code : Code) (r : Mind) → OpensOne o name (Continue (Some code)) p q y z b c → r ≡ begun_block (with_later rest q) → OpensCode s code r x z a c
  opening_reads code r k is =
      let last = begun_block (entered o name (with_later rest (opened p))) in
      let same : begun_block (with_later rest q) ≡ last = ap (λ m. begun_block (with_later rest m)) k.mind ∙ ap begun_block (entered_later o name rest (opened p)) in
      record {
        trees = k.trees;
        is_code = k.is_code;
        reaches = subst (λ m. Reaches {X = Event} step s (Running (ahead k.trees []) m) x z a c) (sym (is ∙ same))
            (reaches_then step s (Opening o (name ∷ rest) p) (Running (ahead k.trees []) last) x y z a b c reached (k.opens rest));
      }

  pub opening_wants : ((names : List (List ℕ)) → OutOfMemory (open_next o (name ∷ names) p) y z b c) → RunsOut {X = Event} step MayRunOut s x z a c
  opening_wants k = ran_out_then step MayRunOut s (Opening o (name ∷ rest) p) x y z a b c reached (k rest) (λ more e. tt)

-- none is left
stands_without : (b : Bool) (p : Mind) (x : JournalState) (s : View) (end : State) → (if b then Running [] p else Over HostOff p) ≡ end → Executes {R = Onward} (Ends (Go (if b then Running [] p else Over HostOff p))) (Go end) x x s s
stands_without b p x s end e = subst (λ t. Executes {R = Onward} (Ends (Go t)) (Go end) x x s s) (sym e) (executes_nothing (Go end) x x s refl)

pub none_first : (s : State) (o : OpeningRule) (items : List (List ℕ)) (p : Mind) (x y : JournalState) (a b : View) → items ≡ [] → is_first p ≡ true → Reaches {X = Event} step s (Opening o items p) x y a b → Reaches {X = Event} step s (Running [] p) x y a b
none_first s o items p x y a b e first h =
    reaches_then step s (Opening o [] p) (Running [] p) x y y a b b (subst (λ l. Reaches {X = Event} step s (Opening o l p) x y a b) e h)
    (stands_without (is_first p) p y b (Running [] p) (ap (λ v. if v then Running [] p else Over HostOff p) first))

pub none_later : (s : State) (o : OpeningRule) (items : List (List ℕ)) (p : Mind) (x y : JournalState) (a b : View) → items ≡ [] → is_first p ≡ false → Reaches {X = Event} step s (Opening o items p) x y a b → Reaches {X = Event} step s (Over HostOff p) x y a b
none_later s o items p x y a b e first h =
    reaches_then step s (Opening o [] p) (Over HostOff p) x y y a b b (subst (λ l. Reaches {X = Event} step s (Opening o l p) x y a b) e h)
    (stands_without (is_first p) p y b (Over HostOff p) (ap (λ v. if v then Running [] p else Over HostOff p) first))

-- the next rcfile of a process that isn't on its host
pub later_state : (p : Mind) (names none : List (List ℕ)) → names ≡ p.later → none ≡ [] → Opening (record { is_implied = false; keeps_folder = true }) names (with_later none p) ≡ left_by HostOff p
later_state p names none n e =
    let o : OpeningRule = record { is_implied = false; keeps_folder = true } in
    ap (λ l. Opening o l (with_later none p)) n ∙ ap (λ l. Opening o p.later (with_later l p)) e

pub reaches_from : (s t u : State) (x y : JournalState) (a b : View) → s ≡ t → Reaches {X = Event} step s u x y a b → Reaches {X = Event} step t u x y a b
reaches_from s t u x y a b e h = subst (λ v. Reaches {X = Event} step v u x y a b) e h

pub wants_from : (s t : State) (x y : JournalState) (a b : View) → s ≡ t → RunsOut {X = Event} step MayRunOut s x y a b → RunsOut {X = Event} step MayRunOut t x y a b
wants_from s t x y a b e h = subst (λ v. RunsOut {X = Event} step MayRunOut v x y a b) e h

small_code : (code : Code) → length code.steps.items < 2 ^ 63
small_code code = omega (arith, code.steps.ok, code.steps.small)

pub later_falls : (n m : ℕ) (f g : Frames) → n < m → m ≤ 256 → g.place ≡ 0 → g.blocks.items ≡ [] → g.outer.items ≡ [] → left_over m g < left_over n f
later_falls n m f g h k place blocks outer =
    let left : left_in g + 1 ≤ 2 ^ 66 = omega (arith, small_code g.code, place, ap length blocks, ap left_outside outer) in
    omega (arith, h, k, left)

-- an rcfile that was read is counted
pub openings_read : (o : OpeningRule) (name : List ℕ) (code : Code) (p q : Mind) (x y : JournalState) (a b : View) → OpensOne o name (Continue (Some code)) p q x y a b → q.openings ≡ p.openings + 1
openings_read o name code p q x y a b h = openings_entered o name (opened p) q h.mind

-- memory was wanting before anything was done
pub passing_wants_first : (o : OpeningRule) (name : List ℕ) (missing : Bool) (p : Mind) (x : JournalState) (s : View) → (names : List (List ℕ)) → OutOfMemory (pass_over o name names missing p) x x s s
passing_wants_first o name missing p x s = λ names. out_anywhere (pass_over o name names missing p) x x s refl

pub reading_wants_first : (o : OpeningRule) (name : List ℕ) (p : Mind) (x : JournalState) (s : View) → (names : List (List ℕ)) → OutOfMemory (and_then (ask (ReadFile name)) (after_read o name names p)) x x s s
reading_wants_first o name p x s = λ names. out_anywhere (and_then (ask (ReadFile name)) (after_read o name names p)) x x s refl

pub opening_wants_first : (o : OpeningRule) (name : List ℕ) (p : Mind) (x : JournalState) (s : View) → (names : List (List ℕ)) → OutOfMemory (open_next o (name ∷ names) p) x x s s
opening_wants_first o name p x s = λ names. out_anywhere (open_next o (name ∷ names) p) x x s refl

-- where the process stands once its first rcfile was read, or none was
pub opened_reaches : (s : State) (opened : ControlFlow End (Option Code)) (p : Mind) (x y : JournalState) (a b : View) → OpensFrom s opened p x y a b → Reaches {X = Event} step s (opened_at opened p) x y a b
opened_reaches s (Continue (Some code)) p x y a b h =
    subst (λ items. Reaches {X = Event} step s (Running items p) x y a b) (sym (ap (λ l. weave (lists_of l) [] []) h.is_code ∙ ap (λ l. weave l [] []) (lists-whole h.trees))) h.reaches
opened_reaches s (Break end) p x y a b h = h
opened_reaches s (Continue None) p x y a b h = h

-- an rcfile that begins, by its code
pub begun_frame : (f : Frames) (code : Code) → f.place ≡ 0 → f.code ≡ code → f.blocks.items ≡ [] → f.outer.items ≡ [] → items_of f ≡ weave (lists_of (flats_of code.steps.items)) [] []
begun_frame f code k c b o =
    ap (λ n. weave (lists_of (drop n (flats_of f.code.steps.items))) f.blocks.items (outer_items f.outer.items)) k
    ∙ ap (λ q. weave (lists_of (flats_of q.steps.items)) f.blocks.items (outer_items f.outer.items)) c
    ∙ ap (λ l. weave (lists_of (flats_of code.steps.items)) l (outer_items f.outer.items)) b ∙ ap (λ l. weave (lists_of (flats_of code.steps.items)) [] (outer_items l)) o
