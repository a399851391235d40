-- A plan of which some was carried out.
use Rattle.std.proofs.Common.{[], ◌++◌, inl, inr, sym, ap, ◌∙◌, subst, append_assoc, append-nil}
use Rattle.pm_journal.specs.JournalState.{JournalState}
use Rattle.pm_journal.specs.Entries.{View}
use Rattle.pm_journal.proofs.AccountsJoin.{accounts_join, accounts_none}
use Rattle.pm_journal.specs.Plan.{Plan, and_then, Plays, Wants}
use Rattle.pm_journal.specs.Executed.{Executes, OutOfMemory, LeadsTo}
use Rattle.pm_journal.proofs.PlanJoin.{plays_then, wants_then}

pub leads_itself : {R : Type 0} (p : Plan R) (x : JournalState) (a : View) → LeadsTo p p x x a a
leads_itself p x a = record {
  more = [];
  entries = sym (append-nil x.entries);
  plays = λ later end h. h;
  wants = λ later act h. h;
  accounts = accounts_none a;
}

-- a part of the rest was carried out too
pub leads_on : {R S : Type 0} (whole : Plan S) (p : Plan R) (f : R → Plan S) (r : R) (x y z : JournalState) (a b c : View)
    → LeadsTo whole (and_then p f) x y a b → Executes p r y z b c → LeadsTo whole (f r) x z a c
leads_on whole p f r x y z a b c h k = record {
  more = h.more ++ k.more;
  entries = k.entries ∙ ap (λ l. l ++ k.more) h.entries ∙ append_assoc x.entries h.more k.more;
  plays = λ later end q. subst (λ l. Plays whole l end) (sym (append_assoc h.more k.more later)) (h.plays (k.more ++ later) end (plays_then p f k.more later r end k.plays q));
  wants = λ later act q. subst (λ l. Wants whole l act) (sym (append_assoc h.more k.more later)) (h.wants (k.more ++ later) act (wants_then p f k.more later r act k.plays q));
  accounts = accounts_join h.more k.more a b c h.accounts k.accounts;
}

-- the rest was carried out to its end
pub leads_to_end : {S : Type 0} (whole rest : Plan S) (s : S) (x y z : JournalState) (a b c : View) → LeadsTo whole rest x y a b → Executes rest s y z b c → Executes whole s x z a c
leads_to_end whole rest s x y z a b c h k = record {
  more = h.more ++ k.more;
  entries = k.entries ∙ ap (λ l. l ++ k.more) h.entries ∙ append_assoc x.entries h.more k.more;
  plays = h.plays k.more s k.plays;
  accounts = accounts_join h.more k.more a b c h.accounts k.accounts;
}

-- memory was wanting in the rest
pub leads_to_want : {S : Type 0} (whole rest : Plan S) (x y z : JournalState) (a b c : View) → LeadsTo whole rest x y a b → OutOfMemory rest y z b c → OutOfMemory whole x z a c
leads_to_want whole rest x y z a b c h k = record {
  more = h.more ++ k.more;
  entries = k.entries ∙ ap (λ l. l ++ k.more) h.entries ∙ append_assoc x.entries h.more k.more;
  middle = k.middle;
  accounts = accounts_join h.more k.more a b k.middle h.accounts k.accounts;
  left_off = k.left_off;
  where_off = elim k.where_off [
    | inl w ↦ inl (record { wanted = w.wanted; wants = h.wants k.more w.wanted w.wants; leaves = w.leaves })
    | inr e ↦ inr (record { end = e.end; plays = h.plays k.more e.end e.plays; none = e.none })
  ];
  took = k.took;
}
