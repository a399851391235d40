-- Conditions in plans.
use Rattle.std.proofs.Common.{◌≡◌, ◌<◌, ◌+◌, ◌-◌, ℕ, zero, suc, Bool, true, false, List, [], ◌∷◌, Option, Some, None, drop, length, get_or, refl, sym, ap, ◌∙◌, subst, arith}
use Rattle.std.specs.Prelude.{ℤ, pos}
use Rattle.std.proofs.lemmas.List.{at_drop_more}
use Rattle.std.specs.List.{list_any}
use Rattle.pm_host.specs.declared.command.Command.{Command}
use Rattle.pm_journal.specs.declared.acts.Act.TheVariants.{Run}
use Rattle.pm_recipe.specs.declared.tree.Condition.{Condition}
use Rattle.pm_recipe.specs.declared.tree.Flags.{Flags}
use Rattle.pm_vars.specs.Table.{Table}
use Rattle.pm_subst.specs.Commands.{commands_in}
use Rattle.pm_subst.specs.Words.{words_in}
use Rattle.pm_subst.specs.declared.kinds.Mode.TheVariants.{Quoted}
use Rattle.pm_journal.specs.JournalState.{JournalState}
use Rattle.pm_journal.specs.Entries.{View}
use Rattle.pm_journal.specs.Outcomes.{run_end}
use Rattle.pm_journal.specs.Plan.{Plan, Ends, and_then, ask}
use Rattle.pm_journal.specs.Executed.{Executes, OutOfMemory, LeadsTo}
use Rattle.pm_journal.specs.declared.acts.Reply.{Reply}
use Rattle.pm_journal.specs.declared.children.RunEnd.{RunEnd}
use Rattle.pm_journal.proofs.ActPlans.{executes_then}
use Rattle.pm_journal.proofs.PlanLeads.{leads_itself, leads_on, leads_to_end, leads_to_want}
use Rattle.pm_journal.proofs.WantsMemory.{executes_nothing, out_front, out_then, out_anywhere}
use Rattle.pm_meaning.specs.Leads.{Asking, asking_of, asked, after_blanks}
use Rattle.pm_meaning.specs.Evaluating.{course_of, judged_one, test_outcome, exited, is_expanded, is_program, question_by, with_score, is_weighted}
use Rattle.pm_meaning.specs.Searching.{input_in}
use Rattle.pm_meaning.specs.Weighing.{end_of_all}
use Rattle.pm_meaning.specs.declared.question.Outcome.{Outcome}
use Rattle.pm_meaning.specs.declared.question.Outcome.TheVariants.{Defective, TooLong}
use Rattle.pm_meaning.specs.declared.question.Question.{Question}
use Rattle.pm_meaning.specs.declared.question.Judgement.{Judgement}
use Rattle.pm_meaning.specs.Assigning.{first_word}
use Rattle.pm_meaning.specs.Judging.{seen, with_table, ask_program, by_line, ask_line, comes_by, judge, Come, come_with, tested, read_again, expanded, comes_within, comes_of, Judged, judged_with, judged_by, judge_each}
use Rattle.pm_meaning.specs.Minds.{Mind}
use Rattle.pm_meaning.specs.Outputs.{Outputs, outputs_with, outputs_of, Read, read_with, read_line, tell_run, run_fault}
use Rattle.pm_meaning.specs.Programs.{code_of, with_code, with_exit_code}
use Rattle.pm_meaning.specs.declared.process.ProgramLine.{ProgramLine}
use Rattle.pm_meaning.specs.Turns.{is_too_long, length_in}
use Rattle.pm_meaning.specs.Ready.{told}
use Rattle.pm_meaning.proofs.Choices.{if_yes, if_no}
use Rattle.pm_meaning.proofs.OutputLemmas.{told_then}

module _ (whole : Plan Judged) (weighted : Bool) (flags : Flags) (conditions : List Condition) (i : ℕ) (d item : Condition) (total : ℤ) (p : Mind) where
  -- the condition is the next
  abbrev IsNext : Type 0
  IsNext = (item ≡ get_or conditions i d) × (i < length conditions)

  -- what comes after it
  abbrev rest : Come → Plan Judged
  rest = λ come. judged_by weighted (judged_one item.text come.outcome total come.mind.vars) come.mind (λ score q. judge_each weighted flags (drop (i + 1) conditions) score q)

  first_of : IsNext → (x y : JournalState) (a b : View) → LeadsTo whole (judge_each weighted flags (drop i conditions) total p) x y a b → LeadsTo whole (and_then (comes_of item flags p) rest) x y a b
  first_of is x y a b h =
      subst (λ l. LeadsTo whole (judge_each weighted flags l total p) x y a b) (at_drop_more (λ l. l) conditions i d is.1 ∙ ap (λ t. t ∷ drop (i + 1) conditions) (sym is.0)) h

  pub condition_wants : IsNext → (x y z : JournalState) (a b c : View) → LeadsTo whole (judge_each weighted flags (drop i conditions) total p) x y a b → OutOfMemory (comes_of item flags p) y z b c → OutOfMemory whole x z a c
  condition_wants is x y z a b c h k =
      leads_to_want whole (and_then (comes_of item flags p) rest) x y z a b c (first_of is x y a b h) (out_front (comes_of item flags p) rest y z b c k)

  module _ (outcome : Outcome) (q : Mind) where
    behind : IsNext → (x y z : JournalState) (a b c : View) → LeadsTo whole (judge_each weighted flags (drop i conditions) total p) x y a b → Executes (comes_of item flags p) (come_with outcome q) y z b c
        → LeadsTo whole (rest (come_with outcome q)) x z a c
    behind is x y z a b c h k = leads_on whole (comes_of item flags p) rest (come_with outcome q) x y z a b c (first_of is x y a b h) k

    pub condition_stops : IsNext → (x y z : JournalState) (a b c : View) → LeadsTo whole (judge_each weighted flags (drop i conditions) total p) x y a b → Executes (comes_of item flags p) (come_with outcome q) y z b c
        → OutOfMemory whole x z a c
    condition_stops is x y z a b c h k =
        leads_to_want whole (rest (come_with outcome q)) x z z a c c (behind is x y z a b c h k) (out_anywhere (rest (come_with outcome q)) z z c refl)

    module _ (text : List ℕ) (end : Option Judgement) (score : ℤ) (vars : Table) where
      -- this came of it
      abbrev HasCome : Type 0
      HasCome = (text ≡ item.text) × (judged_one text outcome total q.vars ≡ course_of end score vars)

      -- what comes after it by how it ended
      abbrev rest_by : Option Judgement → Plan Judged
      rest_by e = judged_by weighted (course_of e score vars) q (λ s m. judge_each weighted flags (drop (i + 1) conditions) s m)

      rest_is : HasCome → rest (come_with outcome q) ≡ rest_by end
      rest_is is = ap (λ course. judged_by weighted course q (λ s m. judge_each weighted flags (drop (i + 1) conditions) s m)) (ap (λ t. judged_one t outcome total q.vars) (sym is.0) ∙ is.1)

      pub condition_on : IsNext → HasCome → (x y z : JournalState) (a b c : View) → LeadsTo whole (judge_each weighted flags (drop i conditions) total p) x y a b
          → Executes (comes_of item flags p) (come_with outcome q) y z b c → end ≡ None → LeadsTo whole (judge_each weighted flags (drop (i + 1) conditions) score (with_table vars q)) x z a c
      condition_on is come x y z a b c h k none =
          subst (λ e. LeadsTo whole (rest_by e) x z a c) none (subst (λ l. LeadsTo whole l x z a c) (rest_is come) (behind is x y z a b c h k))

      pub condition_ends : IsNext → HasCome → (verdict : Judgement) (r : Mind) (x y z : JournalState) (a b c : View) → LeadsTo whole (judge_each weighted flags (drop i conditions) total p) x y a b
          → Executes (comes_of item flags p) (come_with outcome q) y z b c → end ≡ Some verdict → r ≡ with_table (with_score weighted score vars) q
          → Executes whole (judged_with verdict r) x z a c
      condition_ends is come verdict r x y z a b c h k some new =
          let led = subst (λ e. LeadsTo whole (rest_by e) x z a c) some (subst (λ l. LeadsTo whole l x z a c) (rest_is come) (behind is x y z a b c h k)) in
          let last = judged_with verdict (with_table (with_score weighted score vars) q) in
          leads_to_end whole (Ends last) (judged_with verdict r) x z z a c c led
          (subst (λ m. Executes (Ends last) (judged_with verdict m) z z c c) (sym new) (executes_nothing last z z c refl))

-- all conditions were judged
pub conditions_over : (whole : Plan Judged) (weighted : Bool) (flags : Flags) (rest : List Condition) (total : ℤ) (p q : Mind) (verdict : Judgement) (x y : JournalState) (a b : View) → rest ≡ []
    → LeadsTo whole (judge_each weighted flags rest total p) x y a b → verdict ≡ end_of_all weighted total → q ≡ with_table (with_score weighted total p.vars) p → Executes whole (judged_with verdict q) x y a b
conditions_over whole weighted flags rest total p q verdict x y a b none h is new =
    let last = judged_with (end_of_all weighted total) (with_table (with_score weighted total p.vars) p) in
    leads_to_end whole (Ends last) (judged_with verdict q) x y y a b b (subst (λ l. LeadsTo whole (judge_each weighted flags l total p) x y a b) none h)
    (subst (λ m. Executes (Ends last) (judged_with verdict m) y y b b) (sym new)
    (subst (λ v. Executes (Ends last) (judged_with v (with_table (with_score weighted total p.vars) p)) y y b b) (sym is) (executes_nothing last y y b refl)))

-- no `$` stands at the front
pub tested_front : (n : ℕ) (flags : Flags) (asking front : Asking) (p : Mind) → asked asking ≡ front → is_expanded front.text ≡ false → tested flags front p ≡ comes_within n flags asking p
tested_front zero flags asking front p is plain =
    ap (λ f. tested flags f p) (sym is) ∙ if_no (is_expanded (asked asking).text) (Ends (come_with Defective p)) (tested flags (asked asking) p) (ap (λ f. is_expanded f.text) is ∙ plain)
tested_front (suc n) flags asking front p is plain =
    ap (λ f. tested flags f p) (sym is)
    ∙ if_no (is_expanded (asked asking).text) (expanded (drop 1 (asked asking).text) (asked asking).question p (λ next q. comes_within n flags next q)) (tested flags (asked asking) p) (ap (λ f. is_expanded f.text) is ∙ plain)

-- a `$` too many
pub stopped_front : (n : ℕ) (flags : Flags) (asking front : Asking) (p : Mind) → n ≡ 0 → asked asking ≡ front → is_expanded front.text ≡ true → Ends (come_with Defective p) ≡ comes_within n flags asking p
stopped_front zero flags asking front p none is dollar = if_yes (is_expanded (asked asking).text) (Ends (come_with Defective p)) (tested flags (asked asking) p) (ap (λ f. is_expanded f.text) is ∙ dollar)
stopped_front (suc n) flags asking front p none is dollar = absurd (cc)

-- a `$` whose rest is expanded
pub expanded_front : (n : ℕ) (flags : Flags) (asking front : Asking) (p : Mind) → 0 < n → asked asking ≡ front → is_expanded front.text ≡ true
    → expanded (drop 1 front.text) front.question p (λ next q. comes_within (n - 1) flags next q) ≡ comes_within n flags asking p
expanded_front zero flags asking front p some is dollar = absurd (omega (arith, some))
expanded_front (suc n) flags asking front p some is dollar =
    let same : suc n - 1 ≡ n = omega arith in
    ap (λ k. expanded (drop 1 front.text) front.question p (λ next q. comes_within k flags next q)) same
    ∙ (ap (λ f. expanded (drop 1 f.text) f.question p (λ next q. comes_within n flags next q)) (sym is)
    ∙ if_yes (is_expanded (asked asking).text) (expanded (drop 1 (asked asking).text) (asked asking).question p (λ next q. comes_within n flags next q)) (tested flags (asked asking) p) (ap (λ f. is_expanded f.text) is ∙ dollar))

-- what comes after the commands of such a text
abbrev pub after_commands : List ℕ → Question → (Asking → Mind → Plan Come) → Outputs → Plan Come
after_commands text question go_on = λ ran. read_again text ran.outputs question ran.mind go_on

pub reads_again : (text shown value : List ℕ) (outputs : List (List ℕ)) (question : Question) (p : Mind) (go_on : Asking → Mind → Plan Come) → is_too_long Quoted text p.vars outputs ≡ false
    → value ≡ first_word (words_in Quoted p.vars outputs text) → shown ≡ after_blanks value → go_on (asking_of shown question) p ≡ read_again text outputs question p go_on
reads_again text shown value outputs question p go_on fits is same =
    ap (λ t. go_on (asking_of t question) p) (same ∙ ap after_blanks is)
    ∙ if_no (is_too_long Quoted text p.vars outputs) (Ends (come_with (TooLong (length_in Quoted text p.vars outputs)) p))
    (go_on (asking_of (after_blanks (first_word (words_in Quoted p.vars outputs text))) question) p) fits

pub reads_too_long : (text : List ℕ) (size : ℕ) (outputs : List (List ℕ)) (question : Question) (p : Mind) (go_on : Asking → Mind → Plan Come) → is_too_long Quoted text p.vars outputs ≡ true
    → size ≡ length_in Quoted text p.vars outputs → Ends (come_with (TooLong size) p) ≡ read_again text outputs question p go_on
reads_too_long text size outputs question p go_on long is =
    ap (λ n. Ends (come_with (TooLong n) p)) is
    ∙ if_yes (is_too_long Quoted text p.vars outputs) (Ends (come_with (TooLong (length_in Quoted text p.vars outputs)) p))
    (go_on (asking_of (after_blanks (first_word (words_in Quoted p.vars outputs text))) question) p) long

-- what comes after a program that was asked
abbrev pub after_program : List ℕ → Question → Mind → Reply → Plan Come
after_program text question p reply = tell_run (run_end reply) text (with_code reply p) (come_with (exited question (code_of (run_end reply))) (with_code reply p))

-- the same by how it ended
abbrev by_end : List ℕ → Question → Mind → RunEnd → Plan Come
by_end text question p end = tell_run end text (with_exit_code (code_of end) p) (come_with (exited question (code_of end)) (with_exit_code (code_of end) p))

module _ (text : List ℕ) (question : Question) (end : RunEnd) (p q : Mind) (reply : Reply) where
  -- the end is that of the reply
  abbrev IsOf : Type 0
  IsOf = (end ≡ run_end reply) × (q ≡ with_exit_code (code_of end) p)

  -- what came of it
  abbrev last : Come
  last = come_with (exited question (code_of end)) q

  behind_is : IsOf → tell_run end text q last ≡ after_program text question p reply
  behind_is is = ap (λ m. tell_run end text m (come_with (exited question (code_of end)) m)) is.1 ∙ ap (by_end text question p) is.0

  pub program_told : IsOf → (outcome : Outcome) (x y : JournalState) (a b : View) → outcome ≡ exited question (code_of end) → Executes (tell_run end text q told) tt x y a b
      → Executes (after_program text question p reply) (come_with outcome q) x y a b
  program_told is outcome x y a b same h =
      subst (λ plan. Executes plan (come_with outcome q) x y a b) (behind_is is)
      (subst (λ o. Executes (tell_run end text q last) (come_with o q) x y a b) (sym same)
      (subst (λ plan. Executes plan last x y a b) (told_then (run_fault end text) q last)
      (executes_then (tell_run end text q told) (λ _. Ends last) told last x y y a b b h (executes_nothing last y y b refl))))

  pub program_untold : IsOf → (x y : JournalState) (a b : View) → OutOfMemory (tell_run end text q told) x y a b → OutOfMemory (after_program text question p reply) x y a b
  program_untold is x y a b h =
      subst (λ plan. OutOfMemory plan x y a b) (behind_is is)
      (subst (λ plan. OutOfMemory plan x y a b) (told_then (run_fault end text) q last) (out_front (tell_run end text q told) (λ _. Ends last) x y a b h))

-- the program was asked, and what comes after it
module _ (command : Command) (input text : List ℕ) (flags : Flags) (question : Question) (p : Mind) where
  -- the act, whatever its input
  abbrev asks : List ℕ → Plan Reply
  asks bytes = ask (Run command bytes false)

  -- what the condition names
  abbrev named : List ℕ
  named = input_in question.scope (seen flags p)

  pub program_unrun : (x y : JournalState) (a b : View) → input ≡ named → OutOfMemory (asks input) x y a b → OutOfMemory (ask_program command text flags question p) x y a b
  program_unrun x y a b e h = out_front (asks named) (after_program text question p) x y a b (subst (λ i. OutOfMemory (asks i) x y a b) e h)

  module _ (reply : Reply) where
    pub program_then : (outcome : Outcome) (q : Mind) (x y z : JournalState) (a b c : View) → input ≡ named → Executes (asks input) reply x y a b → Executes (after_program text question p reply) (come_with outcome q) y z b c
        → Executes (ask_program command text flags question p) (come_with outcome q) x z a c
    program_then outcome q x y z a b c e h k =
        executes_then (asks named) (after_program text question p) reply (come_with outcome q) x y z a b c (subst (λ i. Executes (asks i) reply x y a b) e h) k

    pub program_then_out : (x y z : JournalState) (a b c : View) → input ≡ named → Executes (asks input) reply x y a b → OutOfMemory (after_program text question p reply) y z b c → OutOfMemory (ask_program command text flags question p) x z a c
    program_then_out x y z a b c e h k = out_then (asks named) (after_program text question p) reply x y z a b c (subst (λ i. Executes (asks i) reply x y a b) e h) k

-- what comes after a program's line
abbrev pub after_line : List ℕ → Flags → Question → Read → Plan Come
after_line text flags question = λ read. by_line read.line text flags question read.mind

-- a line that can't be run
pub line_known : (text : List ℕ) (flags : Flags) (question : Question) (p q : Mind) (line : ProgramLine) (outcome : Outcome) (x y : JournalState) (a b : View) → by_line line text flags question q ≡ Ends (come_with outcome q)
    → Executes (read_line text p) (read_with line q) x y a b → Executes (ask_line text flags question p) (come_with outcome q) x y a b
line_known text flags question p q line outcome x y a b e h =
    executes_then (read_line text p) (after_line text flags question) (read_with line q) (come_with outcome q) x y y a b b h
    (subst (λ plan. Executes plan (come_with outcome q) y y b b) (sym e) (executes_nothing (come_with outcome q) y y b refl))

-- a test that needs no program
pub plain_test : (flags : Flags) (asking : Asking) (p : Mind) → is_program asking.text ≡ false → Ends (come_with (test_outcome asking (seen flags p)) p) ≡ tested flags asking p
plain_test flags asking p e = if_no (is_program asking.text) (ask_line (after_blanks (drop 1 asking.text)) flags asking.question p) (Ends (come_with (test_outcome asking (seen flags p)) p)) e

-- a weight out of its range, or a question
pub bad_weight : (condition : Condition) (flags : Flags) (p : Mind) (x : JournalState) (s : View) → None ≡ question_by condition.weight → Executes (comes_of condition flags p) (come_with Defective p) x x s s
bad_weight condition flags p x s e = subst (λ q. Executes (comes_by q flags condition.text p) (come_with Defective p) x x s s) e (executes_nothing (come_with Defective p) x x s refl)

pub questioned : (condition : Condition) (flags : Flags) (p : Mind) (question : Question) (text : List ℕ) → Some question ≡ question_by condition.weight → text ≡ condition.text
    → comes_within 8 flags (asking_of text question) p ≡ comes_of condition flags p
questioned condition flags p question text e same = ap (λ t. comes_within 8 flags (asking_of t question) p) same ∙ ap (λ q. comes_by q flags condition.text p) e

-- before any condition
pub conditions_begin : (conditions : List Condition) (flags : Flags) (p : Mind) (weighted : Bool) (x : JournalState) (a : View) → weighted ≡ list_any is_weighted conditions
    → LeadsTo (judge conditions flags p) (judge_each weighted flags conditions (pos 0) p) x x a a
conditions_begin conditions flags p weighted x a e =
    subst (λ w. LeadsTo (judge conditions flags p) (judge_each w flags conditions (pos 0) p) x x a a) (sym e) (leads_itself (judge conditions flags p) x a)

-- the same plan under another form
pub ends_same : {R : Type 0} (p q : Plan R) (end : R) (x y : JournalState) (a b : View) → p ≡ q → Executes p end x y a b → Executes q end x y a b
ends_same p q end x y a b e h = subst (λ plan. Executes plan end x y a b) e h

pub stopped_at : (n : ℕ) (flags : Flags) (asking front : Asking) (p : Mind) (x : JournalState) (s : View) → n ≡ 0 → asked asking ≡ front → is_expanded front.text ≡ true → Executes (comes_within n flags asking p) (come_with Defective p) x x s s
stopped_at n flags asking front p x s none is dollar =
    ends_same (Ends (come_with Defective p)) (comes_within n flags asking p) (come_with Defective p) x x s s (stopped_front n flags asking front p none is dollar) (executes_nothing (come_with Defective p) x x s refl)

-- a text after `$` that expands to too much
pub long_after : (text : List ℕ) (size : ℕ) (outputs : List (List ℕ)) (question : Question) (p q : Mind) (go_on : Asking → Mind → Plan Come) (x y : JournalState) (a b : View)
    → Executes (outputs_of (commands_in Quoted text) p) (outputs_with outputs q) x y a b → is_too_long Quoted text q.vars outputs ≡ true → size ≡ length_in Quoted text q.vars outputs
    → Executes (expanded text question p go_on) (come_with (TooLong size) q) x y a b
long_after text size outputs question p q go_on x y a b h long is =
    let last = come_with (TooLong size) q in
    executes_then (outputs_of (commands_in Quoted text) p) (after_commands text question go_on) (outputs_with outputs q) last x y y a b b h
    (ends_same (Ends last) (read_again text outputs question q go_on) last y y b b (reads_too_long text size outputs question q go_on long is) (executes_nothing last y y b refl))
