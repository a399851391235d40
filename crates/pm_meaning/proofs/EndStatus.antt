-- The status of a run is that of its first process's end.
use Rattle.std.proofs.Common.{◌≡◌, ℕ, zero, suc, Bool, true, false, ◌&&◌, List, [], ◌∷◌, ◌++◌, Option, Some, None, refl, sym, ap, ◌∙◌, subst, append_assoc}
use Rattle.std.specs.Prelude.{if◌then◌else◌, nat_le, codes}
use Rattle.pm_bytes.specs.Number.{count_of}
use Rattle.pm_bytes.specs.declared.environment.Environ.{Environ}
use Rattle.pm_recipe.specs.Tree.{Tree, Trees}
use Rattle.pm_journal.specs.LogText.{no_delivery_line}
use Rattle.pm_journal.specs.declared.acts.Entry.{Entry}
use Rattle.pm_journal.specs.Plan.{Plan, Ends, and_then, Plays}
use Rattle.pm_journal.specs.Walking.{Next, Stop, Go, walk, Means}
use Rattle.pm_journal.proofs.WalkJoin.{arrives_go, arrives_here}
use Rattle.pm_vars.specs.Variables.{value_of}
use Rattle.pm_meaning.specs.Blocks.{closed, give_maybe}
use Rattle.pm_meaning.specs.Chains.{succeeded}
use Rattle.pm_meaning.specs.Changes.{with_rcfile, is_given}
use Rattle.pm_meaning.specs.Delivering.{deliver_default}
use Rattle.pm_meaning.specs.GlobalLock.{give_named}
use Rattle.pm_meaning.specs.Locks.{value_or}
use Rattle.pm_meaning.specs.Minds.{Mind}
use Rattle.pm_meaning.specs.Turns.{Turn, GoesOn, Halts, Enters, Includes, Switches, EndsFile, Clones, ActEnd, for_good}
use Rattle.pm_meaning.specs.declared.process.End.{End}
use Rattle.pm_meaning.specs.declared.process.End.TheVariants.{Delivered, FellOff, NoRc, HostOff}
use Rattle.pm_meaning.specs.Courses.{Others, Course, now_at, with_copy, onward, advance, alone, run_of}
use Rattle.pm_meaning.specs.Completeness.{IsWell}
use Rattle.pm_meaning.specs.EndStatus.{EndsBy, SetsNoStatus}
use Rattle.pm_meaning.specs.Ends.{tell_delivery, trap}
use Rattle.pm_meaning.specs.Running.{State, Arrived, Setting, Opening, Running, Including, Switching, LeavingFile, Cloning, Refusing, FallingOff, Leaving, Over, Trapping, Unlocking, Closing, Item, Do, BlockEnd, FileEnd, Event, Ended, WantsClone, clone_of, included, switched, left_by, ending_of, default_mailboxes, next_default, step, statement, next_of}
use Rattle.pm_meaning.specs.Status.{says_delivered, base_status, is_code, code_in, is_there_empty, exit_status}
use Rattle.pm_meaning.specs.declared.command_line.CommandLine.{CommandLine}
use Rattle.pm_meaning.specs.declared.ending.Ending.{Ending}
use Rattle.pm_meaning.proofs.Closings.{given_end}
use Rattle.pm_meaning.proofs.DeliveredLast.{advanced}
use Rattle.pm_meaning.proofs.FirstKept.{parts_through, on_with, over_own}
use Rattle.pm_meaning.proofs.Lines.{then_end}
use Rattle.pm_meaning.proofs.NoDelivery.{Never, never_ends, never_then, never_said}
use Rattle.pm_meaning.proofs.NoLast.{FailsMidway, FailsOver, never_prepared, never_setting, never_opening, never_opened, never_left, never_refused}
use Rattle.pm_meaning.proofs.OneOutcome.{not_over}

-- TRAP's program had its turn, and the status is settled
abbrev is_settled : Next State Event → Bool
is_settled (Stop (Ended ending p)) = true
is_settled (Stop (WantsClone trees items p)) = false
is_settled (Go (Unlocking ending p)) = true
is_settled (Go (Closing ending p)) = true
is_settled (Go other) = false

not_settled : FailsMidway is_settled
not_settled = record { setting = λ pairs line home p. refl; opening = λ o names p. refl; running = λ items p. refl; leaving = λ locks items p. refl }

not_settled_over : FailsOver is_settled
not_settled_over = record { unread = λ p. refl; elsewhere = λ p. refl }

turn_unsettled : (tree : Tree) (count : ℕ) (rest : List Item) (turn : Turn) → is_settled (next_of tree count rest turn) ≡ false
turn_unsettled tree count rest (GoesOn p) = refl
turn_unsettled tree count rest (Halts end p) = refl
turn_unsettled tree count rest (Enters lock p) = refl
turn_unsettled tree count rest (Includes name p) = refl
turn_unsettled tree count rest (Switches name p) = refl
turn_unsettled tree count rest (EndsFile p) = refl
turn_unsettled tree count rest (Clones p) = refl

either_unsettled : (b : Bool) (rest : List (List ℕ)) (p : Mind) → is_settled (if b then Go (Over Delivered p) else Go (FallingOff rest p)) ≡ false
either_unsettled true rest p = refl
either_unsettled false rest p = refl

default_unsettled : (rest : List (List ℕ)) (came : ActEnd) → is_settled (next_default rest came) ≡ false
default_unsettled rest came = either_unsettled (for_good came) rest came.mind

left_unsettled : (end : End) (p : Mind) → is_settled (Go (left_by end p)) ≡ false
left_unsettled Delivered p = refl
left_unsettled FellOff p = refl
left_unsettled NoRc p = refl
left_unsettled HostOff p = refl

-- a step that ends so
leads_to : {R : Type 0} (p : Plan R) (f : R → Next State Event) → ((r : R) → is_settled (f r) ≡ false) → Never is_settled (and_then p (λ r. Ends (f r)))
leads_to p f fails = never_then is_settled p (λ r. Ends (f r)) (λ r. never_ends is_settled (f r) (fails r))

running_unsettled : (items : List Item) (p : Mind) → Never is_settled (step (Running items p))
running_unsettled [] p = never_ends is_settled (Go (FallingOff (default_mailboxes p.vars) p)) refl
running_unsettled (Do tree ∷ rest) p = leads_to (statement tree p) (λ turn. next_of tree p.openings rest turn) (λ turn. turn_unsettled tree p.openings rest turn)
running_unsettled (BlockEnd saved lock ∷ rest) p = leads_to (give_maybe lock p) (λ q. Go (Running rest (closed saved q))) (λ q. refl)
running_unsettled (FileEnd name ∷ rest) p = never_ends is_settled (Go (Running rest (with_rcfile name p))) refl

falling_unsettled : (mailboxes : List (List ℕ)) (p : Mind) → Never is_settled (step (FallingOff mailboxes p))
falling_unsettled [] p = never_said is_settled p no_delivery_line (Go (Over FellOff p)) refl
falling_unsettled (mailbox ∷ rest) p = leads_to (deliver_default mailbox p) (λ came. next_default rest came) (λ came. default_unsettled rest came)

leaving_unsettled : (locks : List (Option (List ℕ))) (end : End) (p : Mind) → Never is_settled (step (Leaving locks end p))
leaving_unsettled [] end p = never_ends is_settled (Go (left_by end p)) (left_unsettled end p)
leaving_unsettled (lock ∷ locks) end p = leads_to (give_maybe lock p) (λ q. Go (Leaving locks end q)) (λ q. refl)

-- before its program of TRAP a process does steps that settle nothing
abbrev is_before : State → Bool
is_before (Trapping end p) = false
is_before (Unlocking ending p) = false
is_before (Closing ending p) = false
is_before other = true

unsettled : (s : State) → is_before s ≡ true → Never is_settled (step s)
unsettled (Arrived line env bytes) h = never_prepared is_settled not_settled line env bytes
unsettled (Setting pairs line home p) h = never_setting is_settled not_settled pairs line home p
unsettled (Opening o names p) h = never_opening is_settled not_settled not_settled_over o names p
unsettled (Running items p) h = running_unsettled items p
unsettled (Including name rest p) h = never_opened is_settled not_settled name rest p (included name rest) (λ trees q. refl)
unsettled (Switching name rest p) h = never_opened is_settled not_settled name rest p (switched name rest) (λ trees q. refl)
unsettled (LeavingFile locks items p) h = never_left is_settled not_settled locks items p
unsettled (Cloning trees items p) h = never_ends is_settled (Stop (WantsClone trees items p)) refl
unsettled (Refusing items p) h = never_refused is_settled not_settled items p
unsettled (FallingOff mailboxes p) h = falling_unsettled mailboxes p
unsettled (Leaving locks end p) h = leaving_unsettled locks end p
unsettled (Over end p) h = leads_to (tell_delivery end p) (λ done. Go (Trapping end p)) (λ done. refl)
unsettled (Trapping end p) h = let e : false ≡ true = h in absurd (cc)
unsettled (Unlocking ending p) h = let e : false ≡ true = h in absurd (cc)
unsettled (Closing ending p) h = let e : false ≡ true = h in absurd (cc)

-- a process whose status is settled ends by it
closing_ends : (n : ℕ) (o : Others) (ending : Ending) (p : Mind) (es : List Entry) (z : Ending) → o.first ≡ None → Plays (walk advance n (now_at o (Closing ending p))) es (Some z) → z ≡ ending
closing_ends zero o ending p es z none h = absurd (not_over es z h)
closing_ends (suc n) o ending p es z none h =
    let k = parts_through (step (Closing ending p)) (onward o) (on_with n) es (Some z) h in
    let last : Next State Event = Stop (Ended ending p) in
    let is = given_end p.locks last k.front k.middle k.plays_front in
    over_own n o ending z p k.rest none (subst (λ m. Plays (on_with n (onward o m)) k.rest (Some z)) is k.plays_rest)

unlocking_ends : (n : ℕ) (o : Others) (ending : Ending) (p : Mind) (es : List Entry) (z : Ending) → o.first ≡ None → Plays (walk advance n (now_at o (Unlocking ending p))) es (Some z) → z ≡ ending
unlocking_ends zero o ending p es z none h = absurd (not_over es z h)
unlocking_ends (suc n) o ending p es z none h =
    let k = parts_through (step (Unlocking ending p)) (onward o) (on_with n) es (Some z) h in
    let a = then_end (give_named p.global p) (λ q. Go (Closing ending q)) k.front k.middle k.plays_front in
    closing_ends n o ending a.0 k.rest z none (subst (λ m. Plays (on_with n (onward o m)) k.rest (Some z)) a.2 k.plays_rest)

trapping_ends : (n : ℕ) (o : Others) (end : End) (p : Mind) (es : List Entry) (z : Ending) → o.first ≡ None → Plays (walk advance n (now_at o (Trapping end p))) es (Some z) → EndsBy (now_at o (Trapping end p)) es z
trapping_ends zero o end p es z none h = absurd (not_over es z h)
trapping_ends (suc n) o end p es z none h =
    let k = parts_through (step (Trapping end p)) (onward o) (on_with n) es (Some z) h in
    let a = then_end (trap end p) (λ t. Go (Unlocking (ending_of end t.code t.mind) t.mind)) k.front k.middle k.plays_front in
    let own : z ≡ ending_of end a.0.code a.0.mind =
    unlocking_ends n o (ending_of end a.0.code a.0.mind) a.0.mind k.rest z none (subst (λ m. Plays (on_with n (onward o m)) k.rest (Some z)) a.2 k.plays_rest) in
    subst (λ (x : Ending). EndsBy (now_at o (Trapping end p)) es x) (sym own) (record {
      before = [];
      trapped = k.front;
      later = k.rest;
      whole = k.whole;
      mind = p;
      comes = (o, none, arrives_here {X = Ending} advance (now_at o (Trapping end p)));
      left = a.0;
      ran = a.1;
      status = refl;
    })

-- what comes after a step
later_on : (c d : Course) (front rest es : List Entry) (z : Ending) → es ≡ front ++ rest → Plays (advance c) front (Go d) → EndsBy d rest z → EndsBy c es z
later_on c d front rest es z e h k = record {
  before = front ++ k.before;
  trapped = k.trapped;
  later = k.later;
  whole = e ∙ ap (λ l. front ++ l) k.whole ∙ sym (append_assoc front k.before (k.trapped ++ k.later));
  mind = k.mind;
  comes = (k.comes.0, k.comes.1, arrives_go {X = Ending} advance c d (now_at k.comes.0 (Trapping z.end k.mind)) front k.before h k.comes.2);
  left = k.left;
  ran = k.ran;
  status = k.status;
}

-- with so many steps
abbrev Walks : ℕ → Type 0
Walks n = (o : Others) (s : State) (es : List Entry) (z : Ending) → o.first ≡ None → is_settled (Go s) ≡ false → Plays (walk advance n (now_at o s)) es (Some z) → EndsBy (now_at o s) es z

copied_by : (b : Bool) (n : ℕ) (c : Course) (o : Others) (trees : Trees) (items : List Item) (p : Mind) (front rest es : List Entry) (z : Ending) → Walks n → o.first ≡ None → es ≡ front ++ rest
    → Plays (advance c) front (if b then Go (now_at o (Refusing items p)) else Go (now_at (with_copy (clone_of trees items p) o) (Running items (succeeded p))))
    → Plays (on_with n (if b then Go (now_at o (Refusing items p)) else Go (now_at (with_copy (clone_of trees items p) o) (Running items (succeeded p))))) rest (Some z) → EndsBy c es z
copied_by true n c o trees items p front rest es z walks none whole h k =
    later_on c (now_at o (Refusing items p)) front rest es z whole h (walks o (Refusing items p) rest z none refl k)
copied_by false n c o trees items p front rest es z walks none whole h k =
    let more = with_copy (clone_of trees items p) o in
    later_on c (now_at more (Running items (succeeded p))) front rest es z whole h (walks more (Running items (succeeded p)) rest z none refl k)

by_event : (n : ℕ) (o : Others) (s : State) (event : Event) (front rest es : List Entry) (z : Ending) → Walks n → o.first ≡ None → es ≡ front ++ rest → Never is_settled (step s)
    → Plays (step s) front (Stop event) → Plays (on_with n (onward o (Stop event))) rest (Some z) → EndsBy (now_at o s) es z
by_event n o s (Ended ending p) front rest es z walks none whole never h k = absurd (never front (Stop (Ended ending p)) h refl)
by_event n o s (WantsClone trees items p) front rest es z walks none whole never h k =
    copied_by (nat_le 16 o.made) n (now_at o s) o trees items p front rest es z walks none whole (advanced o s front (Stop (WantsClone trees items p)) h) k

fails_by : (b : Bool) → (b ≡ true → ⊥) → b ≡ false
fails_by true h = absurd (h refl)
fails_by false h = refl

walks_before : (n : ℕ) (o : Others) (s : State) (es : List Entry) (z : Ending) → Walks n → o.first ≡ None → Never is_settled (step s) → Plays (walk advance (suc n) (now_at o s)) es (Some z) → EndsBy (now_at o s) es z
walks_before n o s es z walks none never h =
    let k = parts_through (step s) (onward o) (on_with n) es (Some z) h in
    elim k.middle as (λ m. Plays (step s) k.front m → Plays (on_with n (onward o m)) k.rest (Some z) → EndsBy (now_at o s) es z) [
      | Stop event ↦ λ a b. by_event n o s event k.front k.rest es z walks none k.whole never a b
      | Go t ↦ λ a b.
          later_on (now_at o s) (now_at o t) k.front k.rest es z k.whole (advanced o s k.front (Go t) a)
          (walks o t k.rest z none (fails_by (is_settled (Go t)) (λ settled. never k.front (Go t) a settled)) b)
    ] k.plays_front k.plays_rest

-- the process has its program of TRAP before it
by_place : (n : ℕ) (o : Others) (s : State) (es : List Entry) (z : Ending) → Walks n → o.first ≡ None → is_settled (Go s) ≡ false → Plays (walk advance (suc n) (now_at o s)) es (Some z) → EndsBy (now_at o s) es z
by_place n o (Trapping end p) es z walks none free h = trapping_ends (suc n) o end p es z none h
by_place n o (Unlocking ending p) es z walks none free h = let e : true ≡ false = free in absurd (cc)
by_place n o (Closing ending p) es z walks none free h = let e : true ≡ false = free in absurd (cc)
by_place n o s es z walks none free h = walks_before n o s es z walks none (unsettled s refl) h

walks_on : (n : ℕ) (o : Others) (s : State) (es : List Entry) (z : Ending) → o.first ≡ None → is_settled (Go s) ≡ false → Plays (walk advance n (now_at o s)) es (Some z) → EndsBy (now_at o s) es z
walks_on zero o s es z none free h = absurd (not_over es z h)
walks_on (suc n) o s es z none free h = by_place n o s es z (walks_on n) none free h

pub end_has_status : (line : CommandLine) (env : Environ) (bytes : List ℕ) (es : List Entry) (ending : Ending) → Means advance (run_of line env bytes) es ending → EndsBy (run_of line env bytes) es ending
end_has_status line env bytes es z h = walks_on h.steps alone (Arrived line env bytes) es z refl refl h.plays

-- the last of three
last_chosen : {A : Type 0} (b c : Bool) (x y z : A) → b ≡ false → c ≡ false → (if b then x else if c then y else z) ≡ z
last_chosen false false x y z h k = refl
last_chosen true c x y z h k = let e : true ≡ false = h in absurd (cc)
last_chosen false true x y z h k = let e : true ≡ false = k in absurd (cc)

both_same : {A : Type 0} (b : Bool) (x : A) → (if b then x else x) ≡ x
both_same true x = refl
both_same false x = refl

pub well_is_success : (end : End) (trapped : ℕ) (p : Mind) → IsWell end → SetsNoStatus p → exit_status end trapped p ≡ 0
well_is_success Delivered trapped p well sets =
    let code = count_of (value_or [] (codes "EXITCODE") p.vars) in
    last_chosen (is_code code) (is_there_empty (value_of (codes "EXITCODE") p.vars.variables) && is_given (codes "TRAP") p) (code_in code) trapped (base_status Delivered p) sets.no_code sets.no_trap
    ∙ both_same (says_delivered p.vars) 0
well_is_success HostOff trapped p well sets =
    let code = count_of (value_or [] (codes "EXITCODE") p.vars) in
    last_chosen (is_code code) (is_there_empty (value_of (codes "EXITCODE") p.vars.variables) && is_given (codes "TRAP") p) (code_in code) trapped (base_status HostOff p) sets.no_code sets.no_trap
    ∙ both_same (says_delivered p.vars) 0
well_is_success FellOff trapped p well sets = absurd well
well_is_success NoRc trapped p well sets = absurd well
