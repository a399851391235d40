-- Steps of a process one after another.
use Rattle.std.proofs.Common.{◌≡◌, ◌⊎◌, ℕ, zero, suc, List, [], ◌∷◌, ◌++◌, Option, Some, None, inl, inr, refl, sym, ap, ◌∙◌, subst, append_assoc, append-nil}
use Rattle.pm_journal.specs.JournalState.{JournalState}
use Rattle.pm_journal.specs.Entries.{View}
use Rattle.pm_journal.specs.Plan.{Plan, Ends, Asks, and_then, Plays}
use Rattle.pm_journal.specs.Executed.{Executes, WantsAct, HasEnded, GivesEach}
use Rattle.pm_journal.specs.Walking.{Next, Stop, Go, walk, reach, Means, IsUnfinished, ArrivesAt, Reaches, Completes}
use Rattle.pm_journal.proofs.PlanJoin.{plays_then, wants_then}
use Rattle.pm_journal.proofs.WantsMemory.{wants_front, ended_front}
use Rattle.pm_journal.proofs.AccountsJoin.{accounts_join, accounts_none}
use Rattle.pm_journal.specs.declared.acts.Entry.{Entry}
use Rattle.pm_host.specs.declared.calls.Logged.{Logged}

pub means_go : {S X : Type 0} (step : S → Plan (Next S X)) (s t : S) (es fs : List Entry) (x : X) → Plays (step s) es (Go t) → Means step t fs x → Means step s (es ++ fs) x
means_go step s t es fs x h k = record { steps = suc k.steps; plays = plays_then (step s) (λ next. elim next [ Stop y ↦ Ends (Some y) | Go u ↦ walk step k.steps u ]) es fs (Go t) (Some x) h k.plays }

pub means_stop : {S X : Type 0} (step : S → Plan (Next S X)) (s : S) (es : List Entry) (x : X) → Plays (step s) es (Stop x) → Means step s es x
means_stop step s es x h = record {
  steps = suc zero;
  plays = subst (λ l. Plays (walk step (suc zero) s) l (Some x)) (append-nil es) (plays_then (step s) (λ next. elim next [ Stop y ↦ Ends (Some y) | Go u ↦ walk step zero u ]) es [] (Stop x) (Some x) h refl);
}

pub unfinished_go : {S X : Type 0} (step : S → Plan (Next S X)) (s t : S) (es fs : List Entry) (calls : List Logged) → Plays (step s) es (Go t) → IsUnfinished step t fs calls → IsUnfinished step s (es ++ fs) calls
unfinished_go {S} {X} step s t es fs calls h k =
    let f : Next S X → Plan (Option X) = λ next. elim next [ Stop y ↦ Ends (Some y) | Go u ↦ walk step k.steps u ] in
    record {
      steps = suc k.steps;
      off = elim k.off [
        | inl w ↦ inl (record { wanted = w.wanted; wants = wants_then (step s) f es fs (Go t) w.wanted h w.wants; leaves = w.leaves })
        | inr e ↦ inr (record { end = e.end; plays = plays_then (step s) f es fs (Go t) e.end h e.plays; none = e.none })
      ];
    }

-- a step that was left off
pub unfinished_here : {S X : Type 0} (step : S → Plan (Next S X)) (s : S) (es : List Entry) (calls : List Logged) → WantsAct (step s) es calls ⊎ HasEnded (step s) es calls → IsUnfinished step s es calls
unfinished_here {S} {X} step s es calls h =
    let f : Next S X → Plan (Option X) = λ next. elim next [ Stop y ↦ Ends (Some y) | Go u ↦ walk step zero u ] in
    record {
      steps = suc zero;
      off = elim h [
        | inl w ↦ inl (record { wanted = w.wanted; wants = wants_front (step s) f es w.wanted w.wants; leaves = w.leaves })
        | inr e ↦ ended_front (step s) f es calls e
      ];
    }

pub never_some : {S : Type 0} (es : List Entry) (t : S) → Plays (Ends None) es (Some t) → ⊥
never_some [] t h = let e : Some t ≡ None = h in cc
never_some (e ∷ es) t h = h

-- what a plan of two parts did in each
pub record Parts {R S : Type 0} (p : Plan R) (f : R → Plan S) (es : List Entry) (end : S) : Type 0 where
  pub middle : R
  pub front : List Entry
  pub rest : List Entry
  pub whole : es ≡ front ++ rest
  pub plays_front : Plays p front middle
  pub plays_rest : Plays (f middle) rest end

pub parts_of : {R S : Type 0} (p : Plan R) (f : R → Plan S) (es : List Entry) (end : S) → Plays (and_then p f) es end → Parts p f es end
parts_of (Ends r) f es end h = record { middle = r; front = []; rest = es; whole = refl; plays_front = refl; plays_rest = h }
parts_of (Asks act go_on) f [] end h = absurd h
parts_of (Asks act go_on) f (e ∷ es) end h =
    let k = parts_of (go_on e.reply) f es end h.2 in
    record { middle = k.middle; front = e ∷ k.front; rest = k.rest; whole = ap (λ l. e ∷ l) k.whole; plays_front = (h.0, h.1, k.plays_front); plays_rest = k.plays_rest }

-- the process goes on with so many steps to a state
abbrev pub on_to : {S X : Type 0} → (S → Plan (Next S X)) → ℕ → Next S X → Plan (Option S)
on_to step n = λ next. elim next [ Stop x ↦ Ends None | Go t ↦ reach step n t ]

-- a step, and then some more
pub arrives_go : {S X : Type 0} (step : S → Plan (Next S X)) (s t u : S) (es fs : List Entry) → Plays (step s) es (Go t) → ArrivesAt {X = X} step t fs u → ArrivesAt {X = X} step s (es ++ fs) u
arrives_go {S} {X} step s t u es fs h k = record { steps = suc k.steps; plays = plays_then (step s) (on_to {X = X} step k.steps) es fs (Go t) (Some u) h k.plays }

pub arrives_here : {S X : Type 0} (step : S → Plan (Next S X)) (s : S) → ArrivesAt {X = X} step s [] s
arrives_here step s = record { steps = zero; plays = refl }

-- some steps, and then some more
pub arrives_on : {S X : Type 0} (step : S → Plan (Next S X)) (n : ℕ) (s t u : S) (es fs : List Entry) → Plays (reach step n s) es (Some t) → ArrivesAt {X = X} step t fs u → ArrivesAt {X = X} step s (es ++ fs) u
arrives_on {S} {X} step zero s t u [] fs h k = let e : Some t ≡ Some s = h in let same : t ≡ s = cc in subst (λ v. ArrivesAt {X = X} step v fs u) same k
arrives_on step zero s t u (e ∷ es) fs h k = absurd h
arrives_on {S} {X} step (suc n) s t u es fs h k =
    let parts = parts_of (step s) (on_to {X = X} step n) es (Some t) h in
    elim parts.middle as (λ m. Plays (step s) parts.front m → Plays (on_to {X = X} step n m) parts.rest (Some t) → ArrivesAt {X = X} step s (es ++ fs) u) [
      | Stop x ↦ λ a b. absurd (never_some parts.rest t b)
      | Go v ↦ λ a b.
          subst (λ l. ArrivesAt {X = X} step s l u) (sym (append_assoc parts.front parts.rest fs) ∙ ap (λ l. l ++ fs) (sym parts.whole))
          (arrives_go step s v u parts.front (parts.rest ++ fs) a (arrives_on step n v t u parts.rest fs b k))
    ] parts.plays_front parts.plays_rest

-- a process that takes one step
one_step : {S X : Type 0} (step : S → Plan (Next S X)) (s t : S) (es : List Entry) → Plays (step s) es (Go t) → ArrivesAt {X = X} step s es t
one_step {S} {X} step s t es h = subst (λ l. ArrivesAt {X = X} step s l t) (append-nil es) (arrives_go step s t t es [] h (arrives_here step t))

pub reaches_itself : {S X : Type 0} (step : S → Plan (Next S X)) (s : S) (x : JournalState) (a : View) → Reaches {X = X} step s s x x a a
reaches_itself {S} {X} step s x a = record { more = []; entries = sym (append-nil x.entries); arrives = arrives_here step s; means = λ later end h. h; unfinished = λ later calls h. h; accounts = accounts_none a }

-- one step more
pub reaches_then : {S X : Type 0} (step : S → Plan (Next S X)) (s t u : S) (x y z : JournalState) (a b c : View) → Reaches {X = X} step s t x y a b → Executes (step t) (Go u) y z b c → Reaches {X = X} step s u x z a c
reaches_then {S} {X} step s t u x y z a b c h k = record {
  more = h.more ++ k.more;
  entries = k.entries ∙ ap (λ l. l ++ k.more) h.entries ∙ append_assoc x.entries h.more k.more;
  arrives = arrives_on step h.arrives.steps s t u h.more k.more h.arrives.plays (one_step step t u k.more k.plays);
  means = λ later end m. subst (λ l. Means step s l end) (sym (append_assoc h.more k.more later)) (h.means (k.more ++ later) end (means_go step t u k.more later end k.plays m));
  unfinished = λ later calls m. subst (λ l. IsUnfinished step s l calls) (sym (append_assoc h.more k.more later)) (h.unfinished (k.more ++ later) calls (unfinished_go step t u k.more later calls k.plays m));
  accounts = accounts_join h.more k.more a b c h.accounts k.accounts;
}

-- the last step
pub completes_then : {S X : Type 0} (step : S → Plan (Next S X)) (s t : S) (end : X) (x y z : JournalState) (a b c : View) → Reaches {X = X} step s t x y a b → Executes (step t) (Stop end) y z b c → Completes step s end x z a c
completes_then step s t end x y z a b c h k = record {
  more = h.more ++ k.more;
  entries = k.entries ∙ ap (λ l. l ++ k.more) h.entries ∙ append_assoc x.entries h.more k.more;
  means = h.means k.more end (means_stop step t k.more end k.plays);
  accounts = accounts_join h.more k.more a b c h.accounts k.accounts;
}

-- a process that went on for some steps, and then came to its end
pub completes_reached : {S X : Type 0} (step : S → Plan (Next S X)) (s t : S) (end : X) (x y z : JournalState) (a b c : View) → Reaches {X = X} step s t x y a b → Completes step t end y z b c → Completes step s end x z a c
completes_reached step s t end x y z a b c h k = record {
  more = h.more ++ k.more;
  entries = k.entries ∙ ap (λ l. l ++ k.more) h.entries ∙ append_assoc x.entries h.more k.more;
  means = h.means k.more end k.means;
  accounts = accounts_join h.more k.more a b c h.accounts k.accounts;
}

-- a process that took one step
pub reaches_once : {S X : Type 0} (step : S → Plan (Next S X)) (s t : S) (x y : JournalState) (a b : View) → Executes (step s) (Go t) x y a b → Reaches {X = X} step s t x y a b
reaches_once step s t x y a b h = reaches_then step s s t x x y a a b (reaches_itself step s x a) h

-- a process that took one step, and then went on
pub reaches_after : {S X : Type 0} (step : S → Plan (Next S X)) (s t u : S) (x y z : JournalState) (a b c : View) → Executes (step s) (Go t) x y a b → Reaches {X = X} step t u y z b c → Reaches {X = X} step s u x z a c
reaches_after step s t u x y z a b c h k = record {
  more = h.more ++ k.more;
  entries = k.entries ∙ ap (λ l. l ++ k.more) h.entries ∙ append_assoc x.entries h.more k.more;
  arrives = arrives_go step s t u h.more k.more h.plays k.arrives;
  means = λ later end m. subst (λ l. Means step s l end) (sym (append_assoc h.more k.more later)) (means_go step s t h.more (k.more ++ later) end h.plays (k.means later end m));
  unfinished = λ later calls m. subst (λ l. IsUnfinished step s l calls) (sym (append_assoc h.more k.more later)) (unfinished_go step s t h.more (k.more ++ later) calls h.plays (k.unfinished later calls m));
  accounts = accounts_join h.more k.more a b c h.accounts k.accounts;
}

pub gives_none : (x : JournalState) (s : View) → GivesEach [] x x s s
gives_none x s = record { given = []; entries = sym (append-nil x.entries); unlocks = tt; accounts = accounts_none s }
