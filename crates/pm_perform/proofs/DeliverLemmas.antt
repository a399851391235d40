-- The choices of a delivery: what the plan is in each case.
use Rattle.std.proofs.Common.{◌≡◌, Bool, List, ℕ, Option, Some, [], ◌∷◌, ◌++◌, length, refl, sym, ap, ◌∙◌, subst}
use Rattle.pm_journal.specs.JournalState.{JournalState}
use Rattle.pm_journal.specs.Entries.{View}
use Rattle.pm_journal.specs.LogText.{value_too_long_line}
use Rattle.pm_journal.specs.Plan.{Plan, Ends, and_then}
use Rattle.pm_journal.specs.Executed.{Executes, OutOfMemory}
use Rattle.pm_journal.proofs.ActPlans.{executes_then}
use Rattle.pm_journal.proofs.WantsMemory.{executes_nothing, out_then}
use Rattle.pm_recipe.specs.Tree.{Top}
use Rattle.pm_recipe.specs.View.{act_of}
use Rattle.pm_recipe.specs.declared.tree.Flags.{Flags}
use Rattle.pm_recipe.specs.declared.tree.Action.{Action}
use Rattle.pm_recipe.specs.declared.tree.Statements.{Statements}
use Rattle.pm_recipe.specs.declared.tree.Action.TheVariants.{Mailbox, Pipe, Capture, Forward, WriteOut, Block}
use Rattle.pm_subst.specs.Commands.{commands_in}
use Rattle.pm_subst.specs.declared.kinds.Mode.TheVariants.{One, Many}
use Rattle.pm_meaning.specs.Abstracts.{copy_lines}
use Rattle.pm_meaning.specs.Locks.{text_or}
use Rattle.pm_meaning.specs.Turns.{ActEnd, failed, overflow_act}
use Rattle.pm_meaning.specs.Acting.{act_on}
use Rattle.pm_meaning.specs.ProgramActions.{pipe, capture_line, forward, write_out}
use Rattle.pm_meaning.specs.Delivering.{Attempted, attempt, attempt_lines, attempt_acted, say_each, is_done, settled, told, after_attempt, file_and_say, deliver_to, Ready, deliver_with, make_ready, deliver, no_flags, deliver_default}
use Rattle.pm_meaning.specs.Minds.{Mind}
use Rattle.pm_meaning.proofs.Choices.{line_told}
use Rattle.pm_meaning.specs.Apart.{acted_with}
use Rattle.pm_meaning.specs.Changes.{overflowed}
use Rattle.pm_meaning.specs.Logging.{log, logged}
use Rattle.pm_meaning.specs.declared.acted.Acted.{Acted}
use Rattle.pm_meaning.specs.declared.acted.Acted.TheVariants.{Went}
use Rattle.pm_meaning.specs.declared.acted.Cause.TheVariants as cause
use Rattle.pm_meaning.specs.declared.process.Attempt.{Attempt}
use Rattle.pm_meaning.specs.declared.process.Destination.{Destination}
use Rattle.pm_perform.specs.Copies.{attempted_of}

-- nothing is done, and the process goes on
pub goes_on : (p : Mind) (plan : Plan ActEnd) (x : JournalState) (s : View) → Ends (acted_with Went p) ≡ plan → Executes plan (acted_with Went p) x x s s
goes_on p plan x s e = subst (λ q. Executes q (acted_with Went p) x x s s) e (executes_nothing (acted_with Went p) x x s refl)

-- a value that is too long was told
pub overflow_told : (length : ℕ) (line : List ℕ) (p q : Mind) (x y : JournalState) (a b : View) → line ≡ value_too_long_line length → q ≡ overflowed p → Executes (log line p) logged x y a b
    → Executes (overflow_act length p) (failed (cause.Overflow length) q) x y a b
overflow_told length line p q x y a b is same h =
    let came = failed (cause.Overflow length) in
    subst (λ r. Executes (overflow_act length p) (came r) x y a b) (sym same) (line_told p (value_too_long_line length) line (came (overflowed p)) x y a b is h)

-- what the action of a recipe is
pub acts_block : (top : Top) (action : Action) (statements : Statements) (p : Mind) → action ≡ Block statements → Ends (acted_with Went p) ≡ act_on top (act_of action) p
acts_block top action statements p is = ap (λ act. act_on top (act_of act) p) (sym is)

pub writes_out : (top : Top) (action : Action) (p : Mind) → action ≡ WriteOut → write_out top.flags top.lock p ≡ act_on top (act_of action) p
writes_out top action p is = ap (λ act. act_on top (act_of act) p) (sym is)

-- it goes by these flags, this lock file and this text
module _ (top : Top) (action : Action) (text shown : List ℕ) (flags : Flags) (lock : Option (List ℕ)) (p : Mind) where
  abbrev IsOrder : Type 0
  IsOrder = (flags ≡ top.flags) × (lock ≡ top.lock) × (shown ≡ text)

  same_order : (act : Flags → Option (List ℕ) → List ℕ → Plan ActEnd) → IsOrder → act flags lock shown ≡ act top.flags top.lock text
  same_order act is = ap (λ f. act f lock shown) is.0 ∙ (ap (λ l. act top.flags l shown) is.1 ∙ ap (act top.flags top.lock) is.2)

  pub stores : action ≡ Mailbox text → IsOrder → deliver flags lock shown p ≡ act_on top (act_of action) p
  stores is order = same_order (λ f l t. deliver f l t p) order ∙ ap (λ act. act_on top (act_of act) p) (sym is)

  pub pipes : action ≡ Pipe text → IsOrder → pipe flags lock shown p ≡ act_on top (act_of action) p
  pipes is order = same_order (λ f l t. pipe f l t p) order ∙ ap (λ act. act_on top (act_of act) p) (sym is)

  pub captures : (name : List ℕ) → action ≡ Capture name text → IsOrder → capture_line flags lock name shown p ≡ act_on top (act_of action) p
  captures name is order = same_order (λ f l t. capture_line f l name t p) order ∙ ap (λ act. act_on top (act_of act) p) (sym is)

  pub forwards : action ≡ Forward text → IsOrder → forward flags lock shown p ≡ act_on top (act_of action) p
  forwards is order = same_order (λ f l t. forward f l t p) order ∙ ap (λ act. act_on top (act_of act) p) (sym is)

-- the attempt was made, and what is told after it comes
pub attempt_then : (flags : Flags) (lock : Option (List ℕ)) (text : List ℕ) (ds : List Destination) (p : Mind) (done : Attempted) (came : ActEnd) (x y z : JournalState) (a b c : View) → Executes (attempt lock flags ds p) done x y a b
    → Executes (after_attempt flags text done) came y z b c → Executes (file_and_say flags lock text ds p) came x z a c
attempt_then flags lock text ds p done came x y z a b c h k = executes_then (attempt lock flags ds p) (after_attempt flags text) done came x y z a b c h k

pub attempt_then_out : (flags : Flags) (lock : Option (List ℕ)) (text : List ℕ) (ds : List Destination) (p : Mind) (done : Attempted) (x y z : JournalState) (a b c : View) → Executes (attempt lock flags ds p) done x y a b
    → OutOfMemory (after_attempt flags text done) y z b c → OutOfMemory (file_and_say flags lock text ds p) x z a c
attempt_then_out flags lock text ds p done x y z a b c h k = out_then (attempt lock flags ds p) (after_attempt flags text) done x y z a b c h k

-- what is told after an attempt, and what comes then
pub said_after : (flags : Flags) (text : List ℕ) (a : Attempt) (m q : Mind) (first lines : List (List ℕ)) (done : Bool) (acted : Acted) → lines ≡ first ++ copy_lines done flags q → first ≡ attempt_lines text a → done ≡ is_done a
    → q ≡ settled a m → acted ≡ attempt_acted flags a → say_each q lines (acted_with acted q) ≡ after_attempt flags text (attempted_of a m)
said_after flags text a m q first lines done acted e g d is f =
    let all : lines ≡ attempt_lines text a ++ copy_lines (is_done a) flags q =
    e ∙ (ap (λ l. l ++ copy_lines done flags q) g ∙ ap (λ b. attempt_lines text a ++ copy_lines b flags q) d) in
    ap (λ l. say_each q l (acted_with acted q)) all ∙ (ap (λ b. say_each q (attempt_lines text a ++ copy_lines (is_done a) flags q) (acted_with b q)) f ∙ ap (told flags text a) is)

-- what is handed on for a default mailbox
pub default_is : (mailbox text word lock value : List ℕ) (flags : Flags) (p : Mind) → text ≡ mailbox → word ≡ mailbox → lock ≡ [] → value ≡ [] → flags ≡ no_flags
    → deliver_to flags (Some lock) value text (word ∷ []) p ≡ deliver_default mailbox p
default_is mailbox text word lock value flags p same is none empty plain =
    ap (λ f. deliver_to f (Some lock) value text (word ∷ []) p) plain
    ∙ (ap (λ l. deliver_to no_flags (Some l) value text (word ∷ []) p) none
    ∙ (ap (λ v. deliver_to no_flags (Some []) v text (word ∷ []) p) empty
    ∙ (ap (λ t. deliver_to no_flags (Some []) [] t (word ∷ []) p) same ∙ ap (λ w. deliver_to no_flags (Some []) [] mailbox (w ∷ []) p) is)))

-- all commands of the texts come first
abbrev pub with_ready : Flags → Option (List ℕ) → List ℕ → Ready → Plan ActEnd
with_ready flags lock text = λ ready. deliver_with flags lock text ready

pub ready_first : (flags : Flags) (lock : Option (List ℕ)) (text : List ℕ) (lock_commands commands : List (List ℕ)) (p : Mind) → lock_commands ≡ commands_in One (text_or [] lock) → commands ≡ commands_in Many text
    → and_then (make_ready lock_commands commands p) (with_ready flags lock text) ≡ deliver flags lock text p
ready_first flags lock text lock_commands commands p e is =
    ap (λ l. and_then (make_ready l commands p) (with_ready flags lock text)) e ∙ ap (λ l. and_then (make_ready (commands_in One (text_or [] lock)) l p) (with_ready flags lock text)) is
