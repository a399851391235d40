-- The last step of a process before it is over as delivered is a delivery.
use Rattle.std.proofs.Common.{◌≡◌, ◌⊎◌, inl, inr, ℕ, Bool, true, false, List, [], ◌∷◌, ◌++◌, Option, Some, refl, sym, ap, ◌∙◌, subst, append-nil}
use Rattle.std.specs.Prelude.{if◌then◌else◌}
use Rattle.pm_recipe.specs.Tree.{Tree}
use Rattle.pm_journal.specs.declared.acts.Entry.{Entry}
use Rattle.pm_journal.specs.Plan.{Plan, Ends, Plays}
use Rattle.pm_journal.specs.Walking.{Next, Stop, Go}
use Rattle.pm_journal.proofs.WalkJoin.{parts_of}
use Rattle.pm_meaning.specs.Blocks.{closed, give_maybe}
use Rattle.pm_meaning.specs.Changes.{with_rcfile}
use Rattle.pm_meaning.specs.Delivering.{no_flags, deliver_default}
use Rattle.pm_meaning.specs.GlobalLock.{give_named}
use Rattle.pm_meaning.specs.Minds.{Mind}
use Rattle.pm_meaning.specs.Turns.{Turn, GoesOn, Halts, Enters, Includes, Switches, EndsFile, Clones, ActEnd, for_good}
use Rattle.pm_meaning.specs.declared.process.End.{End}
use Rattle.pm_meaning.specs.declared.process.End.TheVariants.{Delivered}
use Rattle.pm_meaning.specs.declared.ending.Ending.{Ending}
use Rattle.pm_meaning.specs.Ends.{is_delivered, tell_delivery, trap}
use Rattle.pm_meaning.specs.RunLaws.{AreClosing, in_files}
use Rattle.pm_meaning.specs.Running.{State, Arrived, Setting, Opening, Running, Including, Switching, LeavingFile, Cloning, Refusing, FallingOff, Leaving, Over, Trapping, Unlocking, Closing, Item, Do, BlockEnd, FileEnd, Event, Ended, WantsClone, included, switched, left_by, ending_of, default_mailboxes, next_default, step, statement, next_of}
use Rattle.pm_meaning.proofs.Closings.{block_given, delivery_told, trapped, global_given, all_given, given_end}
use Rattle.pm_meaning.proofs.Lines.{then_end}
use Rattle.pm_meaning.proofs.MailboxDelivered.{delivered_to}
use Rattle.pm_meaning.proofs.NoDelivery.{delivers, never_ends}
use Rattle.pm_meaning.proofs.NoLast.{is_last, not_last, not_last_over, never_prepared, never_setting, never_opening, never_opened, never_left, never_refused, never_lost}
use Rattle.pm_meaning.proofs.TreeDelivered.{DeliversTree, DeliversState, by_statement, by_tree}

-- after a step that is the last, the turn delivered
last_turn : (tree : Tree) (count : ℕ) (rest : List Item) (turn : Turn) → is_last (next_of tree count rest turn) ≡ true → delivers turn ≡ true
last_turn tree count rest (GoesOn p) e = e
last_turn tree count rest (Halts end p) e = e
last_turn tree count rest (Enters lock p) e = e
last_turn tree count rest (Includes name p) e = e
last_turn tree count rest (Switches name p) e = e
last_turn tree count rest (EndsFile p) e = e
last_turn tree count rest (Clones p) e = e

last_good : (b : Bool) (rest : List (List ℕ)) (p : Mind) → is_last (if b then Go (Over Delivered p) else Go (FallingOff rest p)) ≡ true → b ≡ true
last_good true rest p e = refl
last_good false rest p e = e

last_default : (rest : List (List ℕ)) (came : ActEnd) → is_last (next_default rest came) ≡ true → for_good came ≡ true
last_default rest came e = last_good (for_good came) rest came.mind e

by_turn : (rest : List Item) (turn : Turn) (tree : Tree) (p : Mind) (front later : List Entry) (next : Next State Event)
    → Plays (statement tree p) front turn → Plays (Ends (next_of tree p.openings rest turn)) later next → is_last next ≡ true → DeliversTree tree p (front ++ later)
by_turn rest turn tree p front [] next h k passes =
    subst (DeliversTree tree p) (sym (append-nil front)) (by_statement tree p front turn h (last_turn tree p.openings rest turn (sym (ap is_last k) ∙ passes)))
by_turn rest turn tree p front (e ∷ later) next h k passes = absurd k

by_default : (mailbox : List ℕ) (rest : List (List ℕ)) (p : Mind) (came : ActEnd) (front later : List Entry) (next : Next State Event)
    → Plays (deliver_default mailbox p) front came → Plays (Ends (next_default rest came)) later next → is_last next ≡ true → DeliversState (FallingOff (mailbox ∷ rest) p) (front ++ later)
by_default mailbox rest p came front [] next h k passes =
    let here = delivered_to no_flags (Some []) [] mailbox (mailbox ∷ []) p front came h (last_default rest came (sym (ap is_last k) ∙ passes)) in
    record {
      flags = no_flags;
      mind = p;
      asked = [];
      last = front;
      whole = append-nil front;
      final = here.final;
      made = in_files (mailbox ∷ []) (refl, refl, refl, refl) here.usable here.filed;
    }
by_default mailbox rest p came front (e ∷ later) next h k passes = absurd k

running_last : (items : List Item) (p : Mind) (es : List Entry) (next : Next State Event) → Plays (step (Running items p)) es next → is_last next ≡ true → DeliversState (Running items p) es
running_last [] p es next h passes = absurd (never_ends is_last (Go (FallingOff (default_mailboxes p.vars) p)) refl es next h passes)
running_last (Do tree ∷ rest) p es next h passes =
    let f : Turn → Plan (Next State Event) = λ turn. Ends (next_of tree p.openings rest turn) in
    let k = parts_of (statement tree p) f es next h in
    by_tree tree rest p es (subst (DeliversTree tree p) (sym k.whole) (by_turn rest k.middle tree p k.front k.rest next k.plays_front k.plays_rest passes))
running_last (BlockEnd saved lock ∷ rest) p es next h passes =
    let k = parts_of (give_maybe lock p) (λ q. Ends (Go (Running rest (closed saved q)))) es next h in
    absurd (never_ends is_last (Go (Running rest (closed saved k.middle))) refl k.rest next k.plays_rest passes)
running_last (FileEnd name ∷ rest) p es next h passes = absurd (never_ends is_last (Go (Running rest (with_rcfile name p))) refl es next h passes)

falling_last : (mailboxes : List (List ℕ)) (p : Mind) (es : List Entry) (next : Next State Event) → Plays (step (FallingOff mailboxes p)) es next → is_last next ≡ true → DeliversState (FallingOff mailboxes p) es
falling_last [] p es next h passes = absurd (never_lost p es next h passes)
falling_last (mailbox ∷ rest) p es next h passes =
    let k = parts_of (deliver_default mailbox p) (λ came. Ends (next_default rest came)) es next h in
    subst (DeliversState (FallingOff (mailbox ∷ rest) p)) (sym k.whole) (by_default mailbox rest p k.middle k.front k.rest next k.plays_front k.plays_rest passes)

-- the process is over as delivered
abbrev pub IsEnded : State → Type 0
IsEnded (Leaving locks end p) = end ≡ Delivered
IsEnded (Over end p) = end ≡ Delivered
IsEnded (Trapping end p) = end ≡ Delivered
IsEnded (Unlocking ending p) = ending.end ≡ Delivered
IsEnded (Closing ending p) = ending.end ≡ Delivered
IsEnded other = ⊥

-- the process is over as delivered, and does what comes at its end
pub record IsOver (s : State) (es : List Entry) : Type 0 where
  pub ended : IsEnded s
  pub closing : AreClosing es

-- what the step did before a process is over as delivered: it delivers for good, or the process was over before
abbrev pub EndsOrDelivers : State → List Entry → Type 0
EndsOrDelivers s es = IsOver s es ⊎ DeliversState s es

delivered_end : (end : End) → is_delivered end ≡ true → end ≡ Delivered
delivered_end Delivered h = refl
delivered_end other h = let e : false ≡ true = h in absurd (cc)

left_last : (end : End) (p : Mind) → is_last (Go (left_by end p)) ≡ true → end ≡ Delivered
left_last Delivered p h = refl
left_last other p h = let e : false ≡ true = h in absurd (cc)

left_all : (end : End) (p : Mind) (next : Next State Event) (es : List Entry) → Plays {R = Next State Event} (Ends (Go (left_by end p))) es next → is_last next ≡ true → IsOver (Leaving [] end p) es
left_all end p next [] h passes = record { ended = left_last end p (sym (ap is_last h) ∙ passes); closing = tt }
left_all end p next (e ∷ es) h passes = absurd h

left_one : (lock : Option (List ℕ)) (locks : List (Option (List ℕ))) (end : End) (p : Mind) (next : Next State Event) (es : List Entry) → Plays (step (Leaving (lock ∷ locks) end p)) es next → is_last next ≡ true
    → IsOver (Leaving (lock ∷ locks) end p) es
left_one lock locks end p next es h passes =
    let k = then_end (give_maybe lock p) (λ q. Go (Leaving locks end q)) es next h in
    record { ended = delivered_end end (sym (ap is_last k.2) ∙ passes); closing = block_given lock p es k.0 k.1 }

told_last : (end : End) (p : Mind) (next : Next State Event) (es : List Entry) → Plays (step (Over end p)) es next → is_last next ≡ true → IsOver (Over end p) es
told_last end p next es h passes =
    let k = then_end (tell_delivery end p) (λ done. Go (Trapping end p)) es next h in
    record { ended = delivered_end end (sym (ap is_last k.2) ∙ passes); closing = delivery_told end p es k.0 k.1 }

trapped_last : (end : End) (p : Mind) (next : Next State Event) (es : List Entry) → Plays (step (Trapping end p)) es next → is_last next ≡ true → IsOver (Trapping end p) es
trapped_last end p next es h passes =
    let k = then_end (trap end p) (λ t. Go (Unlocking (ending_of end t.code t.mind) t.mind)) es next h in
    record { ended = delivered_end end (sym (ap is_last k.2) ∙ passes); closing = trapped end p es k.0 k.1 }

unlocked_last : (ending : Ending) (p : Mind) (next : Next State Event) (es : List Entry) → Plays (step (Unlocking ending p)) es next → is_last next ≡ true → IsOver (Unlocking ending p) es
unlocked_last ending p next es h passes =
    let k = then_end (give_named p.global p) (λ q. Go (Closing ending q)) es next h in
    record { ended = delivered_end ending.end (sym (ap is_last k.2) ∙ passes); closing = global_given p.global p es k.0 k.1 }

closed_last : (ending : Ending) (p : Mind) (next : Next State Event) (es : List Entry) → Plays (step (Closing ending p)) es next → is_last next ≡ true → IsOver (Closing ending p) es
closed_last ending p next es h passes =
    let last : Next State Event = Stop (Ended ending p) in
    record { ended = delivered_end ending.end (sym (ap is_last (given_end p.locks last es next h)) ∙ passes); closing = all_given p.locks last es next h }

pub last_step : (s : State) (next : Next State Event) (es : List Entry) → Plays (step s) es next → is_last next ≡ true → EndsOrDelivers s es
last_step (Arrived line env bytes) next es h passes = absurd (never_prepared is_last not_last line env bytes es next h passes)
last_step (Setting pairs line home p) next es h passes = absurd (never_setting is_last not_last pairs line home p es next h passes)
last_step (Opening o names p) next es h passes = absurd (never_opening is_last not_last not_last_over o names p es next h passes)
last_step (Running items p) next es h passes = inr (running_last items p es next h passes)
last_step (Including name rest p) next es h passes = absurd (never_opened is_last not_last name rest p (included name rest) (λ trees q. refl) es next h passes)
last_step (Switching name rest p) next es h passes = absurd (never_opened is_last not_last name rest p (switched name rest) (λ trees q. refl) es next h passes)
last_step (LeavingFile locks items p) next es h passes = absurd (never_left is_last not_last locks items p es next h passes)
last_step (Cloning trees items p) next es h passes = absurd (never_ends is_last (Stop (WantsClone trees items p)) refl es next h passes)
last_step (Refusing items p) next es h passes = absurd (never_refused is_last not_last items p es next h passes)
last_step (FallingOff mailboxes p) next es h passes = inr (falling_last mailboxes p es next h passes)
last_step (Leaving [] end p) next es h passes = inl (left_all end p next es h passes)
last_step (Leaving (lock ∷ locks) end p) next es h passes = inl (left_one lock locks end p next es h passes)
last_step (Over end p) next es h passes = inl (told_last end p next es h passes)
last_step (Trapping end p) next es h passes = inl (trapped_last end p next es h passes)
last_step (Unlocking ending p) next es h passes = inl (unlocked_last ending p next es h passes)
last_step (Closing ending p) next es h passes = inl (closed_last ending p next es h passes)

pub ended_last : (t : State) → IsEnded t → is_last (Go t) ≡ true
ended_last (Leaving locks end p) e = ap is_delivered e
ended_last (Over end p) e = ap is_delivered e
ended_last (Trapping end p) e = ap is_delivered e
ended_last (Unlocking ending p) e = ap is_delivered e
ended_last (Closing ending p) e = ap is_delivered e
ended_last (Arrived line env bytes) e = absurd e
ended_last (Setting pairs line home p) e = absurd e
ended_last (Opening o names p) e = absurd e
ended_last (Running items p) e = absurd e
ended_last (Including name rest p) e = absurd e
ended_last (Switching name rest p) e = absurd e
ended_last (LeavingFile locks items p) e = absurd e
ended_last (Cloning trees items p) e = absurd e
ended_last (Refusing items p) e = absurd e
ended_last (FallingOff mailboxes p) e = absurd e
