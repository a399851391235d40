-- Want of memory in the middle of a plan.
use Rattle.std.proofs.Common.{◌≡◌, ◌⊎◌, ℕ, List, [], ◌∷◌, ◌++◌, subst, inl, inr, Result, Ok, Err, OnErr, refl, sym, ap, ◌∙◌, append_assoc, append-nil}
use Rattle.pm_journal.specs.Plan.{Plan, Ends, Asks, and_then, Plays, Wants}
use Rattle.pm_journal.specs.Placing.{LeftPlace}
use Rattle.pm_journal.specs.Reading.{ReadLooking}
use Rattle.pm_journal.specs.Entries.{View}
use Rattle.pm_journal.specs.JournalState.{JournalState}
use Rattle.pm_journal.specs.Executed.{Executes, UnfinishedCalls, WantsAct, HasEnded, TakesCalls, OutOfMemory}
use Rattle.pm_host.proofs.RunsJoin.{ran_none}
use Rattle.pm_journal.proofs.PlanJoin.{plays_then, wants_then}
use Rattle.pm_journal.proofs.AccountsJoin.{accounts_join, accounts_none}
use Rattle.pm_host.specs.declared.calls.Logged.{Logged}
use Rattle.pm_journal.specs.declared.acts.Act.{Act}
use Rattle.pm_journal.specs.declared.acts.Act.TheVariants.{ReadFile, Place, Run}
use Rattle.pm_journal.specs.declared.acts.Entry.{Entry}
use Rattle.pm_journal.specs.declared.acts.Reply.{Reply}
use Rattle.pm_journal.specs.declared.placing.FolderKind.{FolderKind}
use Rattle.pm_journal.specs.declared.placing.FolderKind.TheVariants.{Maildir, Mh, Plain}

pub on_err : {T E : Type 0} (r : Result T E) (P : Type 0) → P → OnErr r P
on_err (Ok x) P p = tt
on_err (Err e) P p = p

pub executes_nothing : {R : Type 0} (end : R) (x y : JournalState) (s : View) → y.entries ≡ x.entries → Executes (Ends end) end x y s s
executes_nothing end x y s e = record { more = []; entries = e ∙ sym (append-nil x.entries); plays = refl; accounts = accounts_none s }

-- an act was left off after these calls
pub out_left_off : {R : Type 0} (act : Act) (go_on : Reply → Plan R) (x y : JournalState) (a b : View) (calls : List Logged) → y.entries ≡ x.entries → UnfinishedCalls act calls → TakesCalls calls a b
    → OutOfMemory (Asks act go_on) x y a b
out_left_off act go_on x y a b calls e leaves took = record {
  more = [];
  entries = e ∙ sym (append-nil x.entries);
  middle = a;
  accounts = accounts_none a;
  left_off = calls;
  where_off = inl (record { wanted = act; wants = refl; leaves = leaves });
  took = took;
}

-- after a part that was carried out
pub out_then : {R S : Type 0} (p : Plan R) (f : R → Plan S) (r : R) (x y z : JournalState) (a b c : View) → Executes p r x y a b → OutOfMemory (f r) y z b c → OutOfMemory (and_then p f) x z a c
out_then p f r x y z a b c h k = record {
  more = h.more ++ k.more;
  entries = k.entries ∙ ap (λ l. l ++ k.more) h.entries ∙ append_assoc x.entries h.more k.more;
  middle = k.middle;
  accounts = accounts_join h.more k.more a b k.middle h.accounts k.accounts;
  left_off = k.left_off;
  where_off = elim k.where_off [
    | inl w ↦ inl (record { wanted = w.wanted; wants = wants_then p f h.more k.more r w.wanted h.plays w.wants; leaves = w.leaves })
    | inr e ↦ inr (record { end = e.end; plays = plays_then p f h.more k.more r e.end h.plays e.plays; none = e.none })
  ];
  took = k.took;
}

place_none : (kind : FolderKind) (folder : List ℕ) → LeftPlace kind folder []
place_none Mh folder = inl refl
place_none Maildir folder = refl
place_none Plain folder = refl

leaves_none : (act : Act) → UnfinishedCalls act []
leaves_none (ReadFile name) = (ReadLooking, refl)
leaves_none (Place kind folder prefix piece stamp) = place_none kind folder
leaves_none (Run command input want) = inl refl
leaves_none other = refl

pub wants_front : {R S : Type 0} (p : Plan R) (f : R → Plan S) (es : List Entry) (act : Act) → Wants p es act → Wants (and_then p f) es act
wants_front (Ends r) f es act h = absurd h
wants_front (Asks wanted go_on) f [] act h = h
wants_front (Asks wanted go_on) f (e ∷ es) act h = (h.0, h.1, wants_front (go_on e.reply) f es act h.2)

at_start : {S : Type 0} (q : Plan S) (calls : List Logged) → calls ≡ [] → WantsAct q [] calls ⊎ HasEnded q [] calls
at_start (Ends s) calls none = inr (record { end = s; plays = refl; none = none })
at_start (Asks act go_on) calls none = inl (record { wanted = act; wants = refl; leaves = subst (UnfinishedCalls act) (sym none) (leaves_none act) })

pub ended_front : {R S : Type 0} (p : Plan R) (f : R → Plan S) (es : List Entry) (calls : List Logged) → HasEnded p es calls → WantsAct (and_then p f) es calls ⊎ HasEnded (and_then p f) es calls
ended_front p f es calls h =
    elim (at_start (f h.end) calls h.none) [
      | inl w ↦ inl (record { wanted = w.wanted; wants = subst (λ l. Wants (and_then p f) l w.wanted) (append-nil es) (wants_then p f es [] h.end w.wanted h.plays w.wants); leaves = w.leaves })
      | inr e ↦ inr (record { end = e.end; plays = subst (λ l. Plays (and_then p f) l e.end) (append-nil es) (plays_then p f es [] h.end e.end h.plays e.plays); none = h.none })
    ]

-- a plan that was left off is left off where it goes on
pub out_front : {R S : Type 0} (p : Plan R) (f : R → Plan S) (x y : JournalState) (a b : View) → OutOfMemory p x y a b → OutOfMemory (and_then p f) x y a b
out_front p f x y a b k = record {
  more = k.more;
  entries = k.entries;
  middle = k.middle;
  accounts = k.accounts;
  left_off = k.left_off;
  where_off = elim k.where_off [
    | inl w ↦ inl (record { wanted = w.wanted; wants = wants_front p f k.more w.wanted w.wants; leaves = w.leaves })
    | inr e ↦ ended_front p f k.more k.left_off e
  ];
  took = k.took;
}

-- before any call, whatever the plan
pub out_anywhere : {R : Type 0} (p : Plan R) (x y : JournalState) (s : View) → y.entries ≡ x.entries → OutOfMemory p x y s s
out_anywhere p x y s e = record {
  more = [];
  entries = e ∙ sym (append-nil x.entries);
  middle = s;
  accounts = accounts_none s;
  left_off = [];
  where_off = at_start p [] refl;
  took = record { ran = ran_none s.host; out_same = refl; err_same = refl; same = refl };
}
