-- Notes of conditions, in plans.
use Rattle.std.proofs.Common.{◌≡◌, ◌<◌, ◌+◌, ℕ, suc, Bool, List, [], ◌∷◌, ◌++◌, Option, Some, None, Result, IfOk, drop, length, get_or, refl, sym, ap, ◌∙◌, subst, arith, append_assoc, append-nil}
use Rattle.std.specs.Prelude.{ℤ, pos}
use Rattle.std.proofs.lemmas.List.{at_drop_more, length-append}
use Rattle.std.specs.List.{list_any}
use Rattle.pm_host.specs.Told.{Tells, Adds}
use Rattle.pm_host.proofs.RunsJoin.{tells_at, tells_then}
use Rattle.pm_recipe.specs.declared.tree.Condition.{Condition}
use Rattle.pm_recipe.specs.declared.tree.Flags.{Flags}
use Rattle.pm_vars.specs.Table.{Table}
use Rattle.pm_journal.specs.JournalState.{JournalState}
use Rattle.pm_journal.specs.Entries.{View}
use Rattle.pm_bytes.specs.declared.error.Memory.{Memory}
use Rattle.pm_journal.specs.Plan.{Plan, Ends, Asks, and_then, Plays}
use Rattle.pm_journal.specs.Executed.{Executes, LeadsTo}
use Rattle.pm_journal.specs.declared.acts.Entry.{Entry}
use Rattle.pm_journal.proofs.PlanJoin.{plays_then}
use Rattle.pm_journal.proofs.PlanLeads.{leads_itself, leads_on, leads_to_end}
use Rattle.pm_journal.proofs.WantsMemory.{executes_nothing}
use Rattle.pm_meaning.specs.Evaluating.{Course, course_of, judged_one, with_score, is_weighted}
use Rattle.pm_meaning.specs.Judging.{Come, come_with, comes_of, Judged, judged_with, judged_by, judge_each, with_table, Held, after_judgement}
use Rattle.pm_meaning.specs.Minds.{Mind}
use Rattle.pm_meaning.specs.Weighing.{end_of_all}
use Rattle.pm_meaning.specs.declared.question.Judgement.{Judgement}
use Rattle.pm_meaning.specs.declared.question.Outcome.{Outcome}
use Rattle.pm_meaning.proofs.Choices.{ok_map}
use Rattle.pm_conds.specs.declared.observer.Note.{Note}
use Rattle.pm_conds.specs.declared.observer.Note.TheVariants as note
use Rattle.pm_conds.specs.Notes.{Counted, counted, counted_with, Noted, noted_with, noted_by, note_each, note_all, Hears, HearsHeld, NotesAreMeant}

-- a plan that was carried out ends with the number of entries
counted_plays : {R : Type 0} (n : ℕ) (plan : Plan R) (es : List Entry) (end : R) → Plays plan es end → Plays (counted n plan) es (counted_with end (n + length es))
counted_plays n (Ends r) [] end h =
    let none : n + length {A = Entry} [] ≡ n = omega arith in
    ap (λ m. counted_with end m) none ∙ ap (λ e. counted_with e n) h
counted_plays n (Ends r) (e ∷ es) end h = absurd h
counted_plays n (Asks act go_on) [] end h = absurd h
counted_plays n (Asks act go_on) (e ∷ es) end h =
    let more : suc n + length es ≡ n + length (e ∷ es) = omega arith in
    (h.0, h.1, subst (λ m. Plays (counted (suc n) (go_on e.reply)) es (counted_with end m)) more (counted_plays (suc n) (go_on e.reply) es end h.2))

executes_counted : {R : Type 0} (plan : Plan R) (end : R) (x y : JournalState) (a b : View) → Executes plan end x y a b
    → Executes (counted (length x.entries) plan) (counted_with end (length y.entries)) x y a b
executes_counted plan end x y a b h =
    let all : length x.entries + length h.more ≡ length y.entries = sym (ap length h.entries ∙ length-append x.entries h.more) in
    record {
      more = h.more;
      entries = h.entries;
      plays = subst (λ m. Plays (counted (length x.entries) plan) h.more (counted_with end m)) all (counted_plays (length x.entries) plan h.more end h.plays);
      accounts = h.accounts;
    }

-- what was told twice was told in all
tells_both : {T : Type 0} (l m : List T) (x y z : Option (List T)) → Tells (Adds l) x y → Tells (Adds m) y z → Tells (Adds (l ++ m)) x z
tells_both l m x y z h k = tells_then (Adds l) (Adds m) (Adds (l ++ m)) (λ a b c r s. s ∙ ap (λ t. t ++ m) r ∙ append_assoc a l m) x y z h k

-- some of the conditions were judged, and the notes of them were heard
pub record Hearing (whole : Plan Noted) (weighted : Bool) (flags : Flags) (rest : List Condition) (total : ℤ) (p : Mind) (x y : JournalState) (a b : View) (before after : Option (List Note)) : Type 0 where
  pub notes : List Note
  pub leads : LeadsTo whole (note_each weighted flags rest total p (length y.entries) notes) x y a b
  pub told : Tells (Adds notes) before after

-- before any condition
pub hearing_begins : (conditions : List Condition) (flags : Flags) (p : Mind) (weighted : Bool) (x : JournalState) (a : View) (heard : Option (List Note)) → weighted ≡ list_any is_weighted conditions
    → Hearing (note_all conditions flags p (length x.entries)) weighted flags conditions (pos 0) p x x a a heard heard
hearing_begins conditions flags p weighted x a heard e =
    let whole = note_all conditions flags p (length x.entries) in
    record {
      notes = [];
      leads = subst (λ w. LeadsTo whole (note_each w flags conditions (pos 0) p (length x.entries) []) x x a a) (sym e) (leads_itself whole x a);
      told = tells_at (Adds []) (λ l. sym (append-nil l)) heard;
    }

module _ (whole : Plan Noted) (weighted : Bool) (flags : Flags) (conditions : List Condition) (i : ℕ) (d item : Condition) (total : ℤ) (p : Mind) where
  -- the condition is the next
  abbrev IsNext : Type 0
  IsNext = (item ≡ get_or conditions i d) × (i < length conditions)

  -- what comes after it
  abbrev rest : List Note → Counted Come → Plan Noted
  rest notes = λ come. noted_by weighted come (judged_one item.text come.end.outcome total come.end.mind.vars) notes (λ score q heard. note_each weighted flags (drop (i + 1) conditions) score q come.entries heard)

  first_of : IsNext → (n : ℕ) (notes : List Note) (x y : JournalState) (a b : View) → LeadsTo whole (note_each weighted flags (drop i conditions) total p n notes) x y a b
      → LeadsTo whole (and_then (counted n (comes_of item flags p)) (rest notes)) x y a b
  first_of is n notes x y a b h =
      subst (λ l. LeadsTo whole (note_each weighted flags l total p n notes) x y a b) (at_drop_more (λ l. l) conditions i d is.1 ∙ ap (λ t. t ∷ drop (i + 1) conditions) (sym is.0)) h

  module _ (text : List ℕ) (outcome : Outcome) (q : Mind) (end : Option Judgement) (score : ℤ) (vars : Table) where
    -- this came of it
    abbrev HasCome : Type 0
    HasCome = (text ≡ item.text) × (judged_one text outcome total q.vars ≡ course_of end score vars)

    -- what comes after it by its course
    abbrev rest_by : List Note → ℕ → Course → Plan Noted
    rest_by notes n course = noted_by weighted (counted_with (come_with outcome q) n) course notes (λ s m heard. note_each weighted flags (drop (i + 1) conditions) s m n heard)

    behind : IsNext → HasCome → (notes : List Note) (x y z : JournalState) (a b c : View) → LeadsTo whole (note_each weighted flags (drop i conditions) total p (length y.entries) notes) x y a b
        → Executes (comes_of item flags p) (come_with outcome q) y z b c → LeadsTo whole (rest_by notes (length z.entries) (course_of end score vars)) x z a c
    behind is come notes x y z a b c h k =
        let led = leads_on whole (counted (length y.entries) (comes_of item flags p)) (rest notes) (counted_with (come_with outcome q) (length z.entries)) x y z a b c
        (first_of is (length y.entries) notes x y a b h) (executes_counted (comes_of item flags p) (come_with outcome q) y z b c k) in
        subst (λ course. LeadsTo whole (rest_by notes (length z.entries) course) x z a c) (ap (λ t. judged_one t outcome total q.vars) (sym come.0) ∙ come.1) led

    -- the note of it
    abbrev its_note : ℕ → Note
    its_note n = note.Judged outcome score n

    pub hearing_on : IsNext → HasCome → (x y z : JournalState) (a b c : View) (told told' told'' : Option (List Note)) → Hearing whole weighted flags (drop i conditions) total p x y a b told told'
        → Executes (comes_of item flags p) (come_with outcome q) y z b c → end ≡ None → Tells (Adds (its_note (length z.entries) ∷ [])) told' told''
        → Hearing whole weighted flags (drop (i + 1) conditions) score (with_table vars q) x z a c told told''
    hearing_on is come x y z a b c told told' told'' h k none heard = record {
      notes = h.notes ++ its_note (length z.entries) ∷ [];
      leads = subst (λ e. LeadsTo whole (rest_by h.notes (length z.entries) (course_of e score vars)) x z a c) none (behind is come h.notes x y z a b c h.leads k);
      told = tells_both h.notes (its_note (length z.entries) ∷ []) told told' told'' h.told heard;
    }

    pub hearing_ends : IsNext → HasCome → (verdict : Judgement) (r : Mind) (x y z : JournalState) (a b c : View) (told told' told'' : Option (List Note)) → Hearing whole weighted flags (drop i conditions) total p x y a b told told'
        → Executes (comes_of item flags p) (come_with outcome q) y z b c → end ≡ Some verdict → Tells (Adds (its_note (length z.entries) ∷ [])) told' told'' → r ≡ with_table (with_score weighted score vars) q
        → (notes : List Note) × Executes whole (noted_with (judged_with verdict r) notes) x z a c × Tells (Adds notes) told told''
    hearing_ends is come verdict r x y z a b c told told' told'' h k some heard new =
        let notes = h.notes ++ its_note (length z.entries) ∷ [] in
        let last = noted_with (judged_with verdict (with_table (with_score weighted score vars) q)) notes in
        let led = subst (λ e. LeadsTo whole (rest_by h.notes (length z.entries) (course_of e score vars)) x z a c) some (behind is come h.notes x y z a b c h.leads k) in (
          notes,
          leads_to_end whole (Ends last) (noted_with (judged_with verdict r) notes) x z z a c c led
              (subst (λ m. Executes (Ends last) (noted_with (judged_with verdict m) notes) z z c c) (sym new) (executes_nothing last z z c refl)),
          tells_both h.notes (its_note (length z.entries) ∷ []) told told' told'' h.told heard,
        )

-- all conditions were judged
pub hearing_over : (whole : Plan Noted) (weighted : Bool) (flags : Flags) (rest : List Condition) (total : ℤ) (p q : Mind) (verdict : Judgement) (x y : JournalState) (a b : View) (before after : Option (List Note)) → rest ≡ []
    → Hearing whole weighted flags rest total p x y a b before after → verdict ≡ end_of_all weighted total → q ≡ with_table (with_score weighted total p.vars) p
    → (notes : List Note) × Executes whole (noted_with (judged_with verdict q) notes) x y a b × Tells (Adds notes) before after
hearing_over whole weighted flags rest total p q verdict x y a b before after none h is new =
    let last = noted_with (judged_with (end_of_all weighted total) (with_table (with_score weighted total p.vars) p)) h.notes in (
      h.notes,
      leads_to_end whole (Ends last) (noted_with (judged_with verdict q) h.notes) x y y a b b (subst (λ l. LeadsTo whole (note_each weighted flags l total p (length y.entries) h.notes) x y a b) none h.leads)
          (subst (λ m. Executes (Ends last) (noted_with (judged_with verdict m) h.notes) y y b b) (sym new)
          (subst (λ v. Executes (Ends last) (noted_with (judged_with v (with_table (with_score weighted total p.vars) p)) h.notes) y y b b) (sym is) (executes_nothing last y y b refl))),
      h.told,
    )

-- what was heard in all
pub heard_all : (conditions : List Condition) (flags : Flags) (p : Mind) (judged : Judged) (x y : JournalState) (a b : View) (before after : Option (List Note))
    → ((notes : List Note) × Executes (note_all conditions flags p (length x.entries)) (noted_with judged notes) x y a b × Tells (Adds notes) before after) → Hears conditions flags p judged x y before after
heard_all conditions flags p judged x y a b before after h = record {
  more = h.1.more;
  entries = h.1.entries;
  notes = h.0;
  plays = h.1.plays;
  told = h.2;
}

-- and then what came of them was told
pub held_heard : (conditions : List Condition) (flags : Flags) (p : Mind) (judged : Judged) {A : Type 0} (held : A → Held) (result : Result A Memory) (x y z : JournalState) (b c : View) (before after : Option (List Note))
    → Hears conditions flags p judged x y before after → IfOk result (λ a. Executes (after_judgement judged) (held a) y z b c) → IfOk result (λ a. HearsHeld conditions flags p (held a) x z before after)
held_heard conditions flags p judged held result x y z b c before after h k =
    ok_map result (λ a. Executes (after_judgement judged) (held a) y z b c) (λ a. HearsHeld conditions flags p (held a) x z before after)
    (λ a told. record { judged = judged; middle = y; hears = h; more = told.more; entries = told.entries; plays = told.plays }) k

-- the two parts of a plan that was carried out
record Apart {R S : Type 0} (p : Plan R) (f : R → Plan S) (es : List Entry) (s : S) : Type 0 where
  first : List Entry
  second : List Entry
  r : R
  whole : es ≡ first ++ second
  begins : Plays p first r
  ends : Plays (f r) second s

plays_apart : {R S : Type 0} (p : Plan R) (f : R → Plan S) (es : List Entry) (s : S) → Plays (and_then p f) es s → Apart p f es s
plays_apart (Ends x) f es s h = record { first = []; second = es; r = x; whole = refl; begins = refl; ends = h }
plays_apart (Asks act go_on) f [] s h = absurd h
plays_apart (Asks act go_on) f (e ∷ es) s h =
    let a = plays_apart (go_on e.reply) f es s h.2 in
    record { first = e ∷ a.first; second = a.second; r = a.r; whole = ap (λ l. e ∷ l) a.whole; begins = (h.0, h.1, a.begins); ends = a.ends }

uncounted_plays : {R : Type 0} (n : ℕ) (plan : Plan R) (es : List Entry) (end : Counted R) → Plays (counted n plan) es end → Plays plan es end.end
uncounted_plays n (Ends r) [] end h = ap (λ c. c.end) h
uncounted_plays n (Ends r) (e ∷ es) end h = absurd h
uncounted_plays n (Asks act go_on) [] end h = absurd h
uncounted_plays n (Asks act go_on) (e ∷ es) end h = (h.0, h.1, uncounted_plays (suc n) (go_on e.reply) es end h.2)

-- a condition without its note
forgets_one : (weighted : Bool) (come : Counted Come) (end : Option Judgement) (score : ℤ) (vars : Table) (notes : List Note) (go_on : ℤ → Mind → List Note → Plan Noted) (rest : ℤ → Mind → Plan Judged)
    → ((s : ℤ) (q : Mind) (heard : List Note) (fs : List Entry) (noted : Noted) → Plays (go_on s q heard) fs noted → Plays (rest s q) fs noted.judged)
    → (es : List Entry) (noted : Noted) → Plays (noted_by weighted come (course_of end score vars) notes go_on) es noted → Plays (judged_by weighted (course_of end score vars) come.end.mind rest) es noted.judged
forgets_one weighted come None score vars notes go_on rest f es noted h = f score (with_table vars come.end.mind) _ es noted h
forgets_one weighted come (Some end) score vars notes go_on rest f [] noted h = ap (λ x. x.judged) h
forgets_one weighted come (Some end) score vars notes go_on rest f (e ∷ es) noted h = absurd h

forgets_each : (weighted : Bool) (flags : Flags) (rest : List Condition) (total : ℤ) (p : Mind) (n : ℕ) (notes : List Note) (es : List Entry) (noted : Noted)
    → Plays (note_each weighted flags rest total p n notes) es noted → Plays (judge_each weighted flags rest total p) es noted.judged
forgets_each weighted flags [] total p n notes [] noted h = ap (λ x. x.judged) h
forgets_each weighted flags [] total p n notes (e ∷ es) noted h = absurd h
forgets_each weighted flags (condition ∷ rest) total p n notes es noted h =
    let after : Counted Come → Plan Noted = λ come. noted_by weighted come (judged_one condition.text come.end.outcome total come.end.mind.vars) notes (λ score q heard. note_each weighted flags rest score q come.entries heard) in
    let behind : Come → Plan Judged = λ come. judged_by weighted (judged_one condition.text come.outcome total come.mind.vars) come.mind (λ score q. judge_each weighted flags rest score q) in
    let a = plays_apart (counted n (comes_of condition flags p)) after es noted h in
    let course = judged_one condition.text a.r.end.outcome total a.r.end.mind.vars in
    let ends = forgets_one weighted a.r course.end course.total course.vars notes (λ score q heard. note_each weighted flags rest score q a.r.entries heard) (λ score q. judge_each weighted flags rest score q)
    (λ s q heard fs m k. forgets_each weighted flags rest s q a.r.entries heard fs m k) a.second noted a.ends in
    subst (λ l. Plays (judge_each weighted flags (condition ∷ rest) total p) l noted.judged) (sym a.whole)
    (plays_then (comes_of condition flags p) behind a.first a.second a.r.end noted.judged (uncounted_plays n (comes_of condition flags p) a.first a.r a.begins) ends)

-- without its notes it is what the meaning judges
pub notes_forgotten : NotesAreMeant
notes_forgotten conditions flags p n es noted h = forgets_each (list_any is_weighted conditions) flags conditions (pos 0) p n [] es noted h
