-- How a run begins: the mail's From line, the words that set variables, and the rcfiles that are tried.
use Rattle.std.proofs.Common.{◌≡◌, ◌∙◌, ◌+◌, ℕ, Bool, List, [], ◌∷◌, ◌++◌, true, false, Option, Some, None, ControlFlow, Continue, Break, map, drop, refl, sym, ap, subst, append_assoc, append-nil}
use Rattle.std.specs.Prelude.{ℤ, codes, bytes_eq, ◌||◌, if◌then◌else◌}
use Rattle.pm_bytes.specs.declared.environment.Environ.{Environ}
use Rattle.pm_bytes.specs.declared.environment.Pair.{Pair}
use Rattle.pm_code.specs.declared.code.Code.{Code}
use Rattle.pm_message.specs.FromLine.{makes_line, prepared_of}
use Rattle.pm_message.specs.Split.{split_of}
use Rattle.pm_message.specs.declared.head.Message.{Message}
use Rattle.pm_journal.specs.JournalState.{JournalState}
use Rattle.pm_journal.specs.Entries.{View}
use Rattle.pm_journal.specs.Executed.{Executes, OutOfMemory}
use Rattle.pm_journal.specs.Plan.{Plan, Ends, and_then, ask}
use Rattle.pm_journal.specs.Walking.{Next, Go, Reaches}
use Rattle.pm_journal.specs.declared.acts.Act.TheVariants.{Moment}
use Rattle.pm_journal.specs.declared.acts.Reply.TheVariants.{Now}
use Rattle.pm_journal.proofs.ActPlans.{executes_then}
use Rattle.pm_journal.proofs.WalkJoin.{reaches_then}
use Rattle.pm_run.specs.RunningOut.{MayRunOut, RunsOut}
use Rattle.pm_run.proofs.RunOutLemmas.{ran_out_then, ran_out_reached}
use Rattle.pm_journal.proofs.WantsMemory.{executes_nothing, out_front, out_then, out_anywhere}
use Rattle.pm_vars.specs.Table.{Table}
use Rattle.pm_vars.specs.Variables.{with_value}
use Rattle.pm_meaning.specs.Assigning.{assigned}
use Rattle.pm_meaning.specs.Changes.{with_variable}
use Rattle.pm_meaning.specs.Delivering.{is_without}
use Rattle.pm_meaning.specs.FirstValues.{login_name, home_folder, first_process}
use Rattle.pm_meaning.specs.Minds.{Mind}
use Rattle.pm_meaning.specs.Turns.{Turn, GoesOn}
use Rattle.pm_meaning.specs.Running.{State, Event, Arrived, Setting, Opening, begun, dated, home_by, set_by_word, mind_in, named_rcfile, in_home, rcfiles_of, sets_folder, opening_of, step}
use Rattle.pm_meaning.specs.declared.command_line.CommandLine.{CommandLine}
use Rattle.pm_meaning.specs.declared.process.End.{End}
use Rattle.pm_meaning.proofs.Choices.{choose_then, choose_else, then_out, else_out}
use Rattle.pm_run.specs.Ends.{rule_of_opening}
use Rattle.pm_run.specs.Opening.{OpensFrom}
use Rattle.pm_run.specs.Turned.{turn_in}
use Rattle.pm_run.specs.declared.opening.Rule.{Rule}
use Rattle.pm_run.specs.declared.turned.Turned.{Turned}
use Rattle.pm_run.specs.declared.turned.Turned.TheVariants as turned
use Rattle.pm_run.proofs.ProcessLemmas.{reaches_reached}

abbrev Onward : Type 0
Onward = Next State Event

-- the words that set variables come after the mail
abbrev starts : CommandLine → Environ → Mind → Onward
starts line env p = Go (Setting line.values line (home_by line.values (home_folder env)) p)

abbrev begins_with : CommandLine → Environ → Message → Mind
begins_with line env message = first_process line.filter line.fails_softly line.arguments env message

-- the mail arrived with its From line, or gets none
pub arrived_whole : (line : CommandLine) (env : Environ) (bytes : List ℕ) (message : Message) (p : Mind) (x : JournalState) (s : View) → makes_line bytes line.renew ≡ false → message ≡ split_of bytes
    → p ≡ begins_with line env message → Executes (step (Arrived line env bytes)) (starts line env p) x x s s
arrived_whole line env bytes message p x s e m is =
    choose_else (makes_line bytes line.renew) (and_then (ask Moment) (dated line env bytes)) (Ends (begun line env (split_of bytes))) (starts line env p) x x s s e
    (subst (λ q. Executes (Ends (starts line env q)) (starts line env p) x x s s) (is ∙ ap (begins_with line env) m) (executes_nothing (starts line env p) x x s refl))

-- the mail got a From line with the moment
pub arrived_dated : (line : CommandLine) (env : Environ) (bytes login : List ℕ) (moment : ℤ) (message : Message) (p : Mind) (x y : JournalState) (a b : View) → makes_line bytes line.renew ≡ true → login ≡ login_name env
    → message ≡ prepared_of bytes line.renew login moment → p ≡ begins_with line env message → Executes (ask Moment) (Now moment) x y a b
    → Executes (step (Arrived line env bytes)) (starts line env p) x y a b
arrived_dated line env bytes login moment message p x y a b e who m is h =
    choose_then (makes_line bytes line.renew) (and_then (ask Moment) (dated line env bytes)) (Ends (begun line env (split_of bytes))) (starts line env p) x y a b e
    (executes_then (ask Moment) (dated line env bytes) (Now moment) (starts line env p) x y y a b b h
    (subst (λ q. Executes (Ends (starts line env q)) (starts line env p) y y b b) (is ∙ ap (begins_with line env) (m ∙ ap (λ l. prepared_of bytes line.renew l moment) who)) (executes_nothing (starts line env p) y y b refl)))

pub dating_wants : (line : CommandLine) (env : Environ) (bytes : List ℕ) (x y : JournalState) (a b : View) → makes_line bytes line.renew ≡ true → OutOfMemory (ask Moment) x y a b
    → OutOfMemory (step (Arrived line env bytes)) x y a b
dating_wants line env bytes x y a b e h =
    then_out (makes_line bytes line.renew) (and_then (ask Moment) (dated line env bytes)) (Ends (begun line env (split_of bytes))) x y a b e (out_front (ask Moment) (dated line env bytes) x y a b h)

pub dated_then_wants : (line : CommandLine) (env : Environ) (bytes : List ℕ) (moment : ℤ) (x y : JournalState) (a b : View) → makes_line bytes line.renew ≡ true → Executes (ask Moment) (Now moment) x y a b
    → OutOfMemory (step (Arrived line env bytes)) x y a b
dated_then_wants line env bytes moment x y a b e h =
    then_out (makes_line bytes line.renew) (and_then (ask Moment) (dated line env bytes)) (Ends (begun line env (split_of bytes))) x y a b e
    (out_then (ask Moment) (dated line env bytes) (Now moment) x y y a b b h (out_anywhere (dated line env bytes (Now moment)) y y b refl))

-- a word that sets a variable
abbrev pub is_rcfile : List ℕ → Bool
is_rcfile name = bytes_eq name (codes "INCLUDERC") || bytes_eq name (codes "SWITCHRC")

abbrev by_host : Pair → Mind → Plan Turn
by_host pair p = if bytes_eq pair.name (codes "HOST") then Ends (GoesOn (with_variable pair.name pair.value p)) else assigned pair.name pair.value p

pub word_skipped : (pair : Pair) (p : Mind) (x : JournalState) (s : View) → is_rcfile pair.name ≡ true → Executes (set_by_word pair p) (GoesOn p) x x s s
word_skipped pair p x s e = choose_then (is_rcfile pair.name) (Ends (GoesOn p)) (by_host pair p) (GoesOn p) x x s s e (executes_nothing (GoesOn p) x x s refl)

pub word_host : (pair : Pair) (p q : Mind) (x : JournalState) (s : View) → is_rcfile pair.name ≡ false → bytes_eq pair.name (codes "HOST") ≡ true → q ≡ with_variable pair.name pair.value p → Executes (set_by_word pair p) (GoesOn q) x x s s
word_host pair p q x s e host is =
    let set : Mind = with_variable pair.name pair.value p in
    choose_else (is_rcfile pair.name) (Ends (GoesOn p)) (by_host pair p) (GoesOn q) x x s s e
    (choose_then (bytes_eq pair.name (codes "HOST")) (Ends (GoesOn set)) (assigned pair.name pair.value p) (GoesOn q) x x s s host
    (subst (λ m. Executes (Ends (GoesOn m)) (GoesOn q) x x s s) is (executes_nothing (GoesOn q) x x s refl)))

pub word_assigned : (pair : Pair) (name value : List ℕ) (p : Mind) (turn : Turn) (x y : JournalState) (a b : View) → is_rcfile pair.name ≡ false → bytes_eq pair.name (codes "HOST") ≡ false → name ≡ pair.name → value ≡ pair.value
    → Executes (assigned name value p) turn x y a b → Executes (set_by_word pair p) turn x y a b
word_assigned pair name value p turn x y a b e host n v h =
    choose_else (is_rcfile pair.name) (Ends (GoesOn p)) (by_host pair p) turn x y a b e
    (choose_else (bytes_eq pair.name (codes "HOST")) (Ends (GoesOn (with_variable pair.name pair.value p))) (assigned pair.name pair.value p) turn x y a b host
    (subst (λ m. Executes (assigned m pair.value p) turn x y a b) n (subst (λ w. Executes (assigned name w p) turn x y a b) v h)))

pub word_out : (pair : Pair) (name value : List ℕ) (p : Mind) (x y : JournalState) (a b : View) → is_rcfile pair.name ≡ false → bytes_eq pair.name (codes "HOST") ≡ false → name ≡ pair.name → value ≡ pair.value
    → OutOfMemory (assigned name value p) x y a b → OutOfMemory (set_by_word pair p) x y a b
word_out pair name value p x y a b e host n v h =
    else_out (is_rcfile pair.name) (Ends (GoesOn p)) (by_host pair p) x y a b e
    (else_out (bytes_eq pair.name (codes "HOST")) (Ends (GoesOn (with_variable pair.name pair.value p))) (assigned pair.name pair.value p) x y a b host
    (subst (λ m. OutOfMemory (assigned m pair.value p) x y a b) n (subst (λ w. OutOfMemory (assigned name w p) x y a b) v h)))

-- the process after a word
mind_after : (way : Turned) (p : Mind) → mind_in (turn_in way p) ≡ p
mind_after turned.Goes p = refl
mind_after (turned.Halts end) p = refl
mind_after (turned.Includes name) p = refl
mind_after (turned.Switches name) p = refl
mind_after turned.EndsFile p = refl

-- one word after the other
abbrev SetsTo : List Pair → List Pair → Mind → Mind → JournalState → JournalState → View → View → Type 0
SetsTo words rest p q x y a b = (line : CommandLine) (home : List ℕ) → Reaches {X = Event} step (Setting words line home p) (Setting rest line home q) x y a b

pub word_set : (words items rest : List Pair) (pair : Pair) (way : Turned) (p q r : Mind) (x y z : JournalState) (a b c : View) → items ≡ pair ∷ rest → SetsTo words items p q x y a b
    → Executes (set_by_word pair q) (turn_in way r) y z b c → SetsTo words rest p r x z a c
word_set words items rest pair way p q r x y z a b c e h k = λ line home.
    let next : Turn → Onward = λ turn. Go (Setting rest line home (mind_in turn)) in
    reaches_then step (Setting words line home p) (Setting (pair ∷ rest) line home q) (Setting rest line home r) x y z a b c
    (subst (λ l. Reaches {X = Event} step (Setting words line home p) (Setting l line home q) x y a b) e (h line home))
    (executes_then (set_by_word pair q) (λ turn. Ends (next turn)) (turn_in way r) (Go (Setting rest line home r)) y z z b c c k
    (subst (λ m. Executes {R = Onward} (Ends (Go (Setting rest line home m))) (Go (Setting rest line home r)) z z c c) (sym (mind_after way r)) (executes_nothing (Go (Setting rest line home r)) z z c refl)))

pub word_wants : (words items rest : List Pair) (pair : Pair) (p q : Mind) (x y z : JournalState) (a b c : View) → items ≡ pair ∷ rest → SetsTo words items p q x y a b
    → OutOfMemory (set_by_word pair q) y z b c → (line : CommandLine) (home : List ℕ) → RunsOut {X = Event} step MayRunOut (Setting words line home p) x z a c
word_wants words items rest pair p q x y z a b c e h k = λ line home.
    ran_out_then step MayRunOut (Setting words line home p) (Setting (pair ∷ rest) line home q) x y z a b c
    (subst (λ l. Reaches {X = Event} step (Setting words line home p) (Setting l line home q) x y a b) e (h line home))
    (out_front (set_by_word pair q) (λ turn. Ends (Go (Setting rest line home (mind_in turn)))) y z b c k) (λ more e. tt)

pub words_set : (words items : List Pair) (p q : Mind) (x y : JournalState) (a b : View) → items ≡ [] → SetsTo words items p q x y a b → SetsTo words [] p q x y a b
words_set words items p q x y a b e h = subst (λ l. SetsTo words l p q x y a b) e h

-- the home folder after a word, and after all
pub home_step : (items rest : List Pair) (pair : Pair) (home found behind : List ℕ) → items ≡ pair ∷ rest → found ≡ (if bytes_eq pair.name (codes "HOME") then pair.value else home) → home_by items home ≡ behind → home_by rest found ≡ behind
home_step items rest pair home found behind e is h = ap (home_by rest) is ∙ (sym (ap (λ l. home_by l home) e) ∙ h)

pub home_over : (items : List Pair) (found behind : List ℕ) → items ≡ [] → home_by items found ≡ behind → found ≡ behind
home_over items found behind e h = sym (ap (λ l. home_by l found) e) ∙ h

-- a word that sets HOST
pub host_set : (pair : Pair) (name value : List ℕ) (p : Mind) (vars : Table) → vars ≡ record p.vars { variables = with_value name value p.vars.variables } → name ≡ pair.name → value ≡ pair.value → record p { vars = vars } ≡ with_variable pair.name pair.value p
host_set pair name value p vars e n v = ap (λ (t : Table). record p { vars = t }) e ∙ (ap (λ m. with_variable m value p) n ∙ ap (λ w. with_variable pair.name w p) v)

same_rule : (line : CommandLine) (rule : Rule) → rule.is_implied ≡ is_without line.rcfiles → rule.keeps_folder ≡ sets_folder line.values → rule_of_opening rule ≡ opening_of line
same_rule line rule i k = ap (λ b. record { is_implied = b; keeps_folder = rule.keeps_folder }) i ∙ ap (λ b. record { is_implied = is_without line.rcfiles; keeps_folder = b }) k

-- the words were set, and the rcfiles come
module _ (line : CommandLine) (home : List ℕ) (rule : Rule) (names : List (List ℕ)) (p q : Mind) (x y : JournalState) (a b : View)
    (implied : rule.is_implied ≡ is_without line.rcfiles) (keeps : rule.keeps_folder ≡ sets_folder line.values) (are : names ≡ rcfiles_of line home) (h : SetsTo line.values [] p q x y a b) where
  abbrev pub tried : State
  tried = Opening (rule_of_opening rule) names q

  same_tried : tried ≡ Opening (opening_of line) (rcfiles_of line home) q
  same_tried = ap (λ o. Opening o names q) (same_rule line rule implied keeps) ∙ ap (λ l. Opening (opening_of line) l q) are

  comes : Reaches {X = Event} step (Setting line.values line home p) tried x y a b
  comes = reaches_then step (Setting line.values line home p) (Setting [] line home q) tried x y y a b b (h line home)
      (subst (λ t. Executes {R = Onward} (Ends (Go t)) (Go tried) y y b b) same_tried (executes_nothing (Go tried) y y b refl))

  pub begins_opening : (opened : ControlFlow End (Option Code)) (r : Mind) (z : JournalState) (c : View) → OpensFrom tried opened r y z b c → OpensFrom (Setting line.values line home p) opened r x z a c
  begins_opening (Continue (Some code)) r z c k = record {
    trees = k.trees;
    is_code = k.is_code;
    reaches = reaches_reached (Setting line.values line home p) tried _ x y z a b c comes k.reaches;
  }
  begins_opening (Break end) r z c k = reaches_reached (Setting line.values line home p) tried _ x y z a b c comes k
  begins_opening (Continue None) r z c k = reaches_reached (Setting line.values line home p) tried _ x y z a b c comes k

  pub begins_wanting : (z : JournalState) (c : View) → RunsOut {X = Event} step MayRunOut tried y z b c → RunsOut {X = Event} step MayRunOut (Setting line.values line home p) x z a c
  begins_wanting z c k = ran_out_reached step MayRunOut (Setting line.values line home p) tried x y z a b c comes k

pub words_want : (line : CommandLine) (home : List ℕ) (p q : Mind) (x y : JournalState) (a b : View) → SetsTo line.values [] p q x y a b → RunsOut {X = Event} step MayRunOut (Setting line.values line home p) x y a b
words_want line home p q x y a b h =
    ran_out_then step MayRunOut (Setting line.values line home p) (Setting [] line home q) x y y a b b (h line home)
    (out_anywhere (step (Setting [] line home q)) y y b refl) (λ more e. tt)

-- the rcfiles that words name
pub rcfiles_named : (line : CommandLine) (home : List ℕ) (names : List (List ℕ)) → is_without line.rcfiles ≡ false → names ≡ map (named_rcfile line.filter home) line.rcfiles → names ≡ rcfiles_of line home
rcfiles_named line home names e h = h ∙ ap (λ b. if b then in_home home (codes ".procmailrc") ∷ [] else map (named_rcfile line.filter home) line.rcfiles) (sym e)

pub rcfile_implied : (line : CommandLine) (home : List ℕ) (names : List (List ℕ)) → is_without line.rcfiles ≡ true → names ≡ in_home home (codes ".procmailrc") ∷ [] → names ≡ rcfiles_of line home
rcfile_implied line home names e h = h ∙ ap (λ b. if b then in_home home (codes ".procmailrc") ∷ [] else map (named_rcfile line.filter home) line.rcfiles) (sym e)

-- a list and its first
pub words_named : (names items words : List (List ℕ)) (f : List ℕ → List ℕ) (i : ℕ) → drop i items ≡ [] → names ++ map f (drop i items) ≡ map f words → names ≡ map f words
words_named names items words f i e h = sym (append-nil names) ∙ ap (λ l. names ++ map f l) (sym e) ∙ h

pub word_named : (names more items words : List (List ℕ)) (name word : List ℕ) (f : List ℕ → List ℕ) (i : ℕ) → drop i items ≡ word ∷ drop (i + 1) items → name ≡ f word → more ≡ names ++ name ∷ [] → names ++ map f (drop i items) ≡ map f words
    → more ++ map f (drop (i + 1) items) ≡ map f words
word_named names more items words name word f i e is add h =
    let rest : List (List ℕ) = map f (drop (i + 1) items) in
    ap (λ l. l ++ rest) (add ∙ ap (λ n. names ++ n ∷ []) is) ∙ append_assoc names (f word ∷ []) rest ∙ ap (λ l. names ++ map f l) (sym e) ∙ h
