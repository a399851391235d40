-- A machine that carries a process out within it, step by step.
use Rattle.std.proofs.Common.{◌≡◌, ℕ, zero, suc, List, [], ◌∷◌, ◌++◌, Option, Some, None, inl, inr, refl, sym, ap, ◌∙◌, subst, append_assoc, append-nil}
use Rattle.pm_journal.specs.JournalState.{JournalState}
use Rattle.pm_journal.specs.Entries.{View}
use Rattle.pm_journal.specs.Plan.{Plan, Ends, Asks, and_then, Plays, Wants}
use Rattle.pm_journal.specs.Executed.{WantsAct, UnfinishedCalls}
use Rattle.pm_journal.specs.Walking.{Next, Stop, Go, walk, reach, Means, IsUnfinished, ArrivesAt, Reaches, Interrupted}
use Rattle.pm_journal.proofs.PlanJoin.{plays_then}
use Rattle.pm_journal.proofs.WantsMemory.{wants_front}
use Rattle.pm_journal.proofs.WalkJoin.{parts_of, on_to, never_some, arrives_go, arrives_here, means_go, unfinished_go, unfinished_here}
use Rattle.pm_journal.specs.declared.acts.Act.{Act}
use Rattle.pm_journal.specs.declared.acts.Entry.{Entry}
use Rattle.pm_journal.specs.declared.acts.Reply.{Reply}
use Rattle.pm_journal.specs.Replies.{IsReplyTo}
use Rattle.pm_host.specs.declared.calls.Logged.{Logged}

-- the process goes on with so many steps to its end
abbrev on_with : {S X : Type 0} → (S → Plan (Next S X)) → ℕ → Next S X → Plan (Option X)
on_with step n = λ next. elim next [ Stop x ↦ Ends (Some x) | Go t ↦ walk step n t ]

-- some steps, and then the rest of the process
pub means_on : {S X : Type 0} (step : S → Plan (Next S X)) (n : ℕ) (s t : S) (es fs : List Entry) (end : X) → Plays (reach step n s) es (Some t) → Means step t fs end → Means step s (es ++ fs) end
means_on step zero s t [] fs end h k = let e : Some t ≡ Some s = h in let same : t ≡ s = cc in subst (λ v. Means step v fs end) same k
means_on step zero s t (e ∷ es) fs end h k = absurd h
means_on {S} {X} step (suc n) s t es fs end h k =
    let parts = parts_of (step s) (on_to {X = X} step n) es (Some t) h in
    elim parts.middle as (λ m. Plays (step s) parts.front m → Plays (on_to {X = X} step n m) parts.rest (Some t) → Means step s (es ++ fs) end) [
      | Stop x ↦ λ a b. absurd (never_some parts.rest t b)
      | Go v ↦ λ a b.
          subst (λ l. Means step s l end) (sym (append_assoc parts.front parts.rest fs) ∙ ap (λ l. l ++ fs) (sym parts.whole))
          (means_go step s v parts.front (parts.rest ++ fs) end a (means_on step n v t parts.rest fs end b k))
    ] parts.plays_front parts.plays_rest

pub unfinished_on : {S X : Type 0} (step : S → Plan (Next S X)) (n : ℕ) (s t : S) (es fs : List Entry) (calls : List Logged) → Plays (reach step n s) es (Some t) → IsUnfinished step t fs calls → IsUnfinished step s (es ++ fs) calls
unfinished_on step zero s t [] fs calls h k = let e : Some t ≡ Some s = h in let same : t ≡ s = cc in subst (λ v. IsUnfinished step v fs calls) same k
unfinished_on step zero s t (e ∷ es) fs calls h k = absurd h
unfinished_on {S} {X} step (suc n) s t es fs calls h k =
    let parts = parts_of (step s) (on_to {X = X} step n) es (Some t) h in
    elim parts.middle as (λ m. Plays (step s) parts.front m → Plays (on_to {X = X} step n m) parts.rest (Some t) → IsUnfinished step s (es ++ fs) calls) [
      | Stop x ↦ λ a b. absurd (never_some parts.rest t b)
      | Go v ↦ λ a b.
          subst (λ l. IsUnfinished step s l calls) (sym (append_assoc parts.front parts.rest fs) ∙ ap (λ l. l ++ fs) (sym parts.whole))
          (unfinished_go step s v parts.front (parts.rest ++ fs) calls a (unfinished_on step n v t parts.rest fs calls b k))
    ] parts.plays_front parts.plays_rest

-- an act that a plan of two parts wants is wanted in the first, or after it
data WantsIn {R S : Type 0} (p : Plan R) (f : R → Plan S) (es : List Entry) (act : Act) : Type 0 where
  in_first : Wants p es act → WantsIn p f es act
  after_it : (middle : R) (front rest : List Entry) → es ≡ front ++ rest → Plays p front middle → Wants (f middle) rest act → WantsIn p f es act

one_later : {R S : Type 0} (wanted : Act) (go_on : Reply → Plan R) (f : R → Plan S) (e : Entry) (es : List Entry) (act : Act) → e.act ≡ wanted → IsReplyTo wanted e.reply
    → WantsIn (go_on e.reply) f es act → WantsIn (Asks wanted go_on) f (e ∷ es) act
one_later wanted go_on f e es act is fits (in_first w) = in_first (is, fits, w)
one_later wanted go_on f e es act is fits (after_it m front rest whole p w) = after_it m (e ∷ front) rest (ap (λ l. e ∷ l) whole) (is, fits, p) w

wants_in : {R S : Type 0} (p : Plan R) (f : R → Plan S) (es : List Entry) (act : Act) → Wants (and_then p f) es act → WantsIn p f es act
wants_in (Ends r) f es act w = after_it r [] es refl refl w
wants_in (Asks wanted go_on) f [] act w = in_first w
wants_in (Asks wanted go_on) f (e ∷ es) act w = one_later wanted go_on f e es act w.0 w.1 (wants_in (go_on e.reply) f es act w.2)

-- `lift` says what comes of a step in the machine
module _ {S T X Y : Type 0} (step : S → Plan (Next S X)) (outer : T → Plan (Next T Y)) (at : S → T) (lift : Next S X → Next T Y)
    (goes : (s : S) → lift (Go s) ≡ Go (at s)) (carries : (s : S) → outer (at s) ≡ and_then (step s) (λ next. Ends (lift next))) where
  plays_within : (s : S) (es : List Entry) (next : Next S X) → Plays (step s) es next → Plays (outer (at s)) es (lift next)
  plays_within s es next h =
      subst (λ p. Plays p es (lift next)) (sym (carries s))
      (subst (λ l. Plays (and_then (step s) (λ n. Ends (lift n))) l (lift next)) (append-nil es)
      (plays_then (step s) (λ n. Ends (lift n)) es [] next (lift next) h refl))

  goes_within : (s t : S) (es : List Entry) → Plays (step s) es (Go t) → Plays (outer (at s)) es (Go (at t))
  goes_within s t es h = subst (λ n. Plays (outer (at s)) es n) (goes t) (plays_within s es (Go t) h)

  arrives_within : (n : ℕ) (s t : S) (es : List Entry) → Plays (reach step n s) es (Some t) → ArrivesAt {X = Y} outer (at s) es (at t)
  arrives_within zero s t [] h = let e : Some t ≡ Some s = h in let same : s ≡ t = cc in subst (λ v. ArrivesAt {X = Y} outer (at s) [] (at v)) same (arrives_here outer (at s))
  arrives_within zero s t (e ∷ es) h = absurd h
  arrives_within (suc n) s t es h =
      let parts = parts_of (step s) (on_to {X = X} step n) es (Some t) h in
      elim parts.middle as (λ m. Plays (step s) parts.front m → Plays (on_to {X = X} step n m) parts.rest (Some t) → ArrivesAt {X = Y} outer (at s) es (at t)) [
        | Stop x ↦ λ a b. absurd (never_some parts.rest t b)
        | Go v ↦ λ a b.
            subst (λ l. ArrivesAt {X = Y} outer (at s) l (at t)) (sym parts.whole)
            (arrives_go outer (at s) (at v) (at t) parts.front parts.rest (goes_within s v parts.front a) (arrives_within n v t parts.rest b))
      ] parts.plays_front parts.plays_rest

  pub reaches_within : (s t : S) (x y : JournalState) (a b : View) → Reaches {X = X} step s t x y a b → Reaches {X = Y} outer (at s) (at t) x y a b
  reaches_within s t x y a b h =
      let comes = arrives_within h.arrives.steps s t h.more h.arrives.plays in
      record {
        more = h.more;
        entries = h.entries;
        arrives = comes;
        means = λ later end m. means_on outer comes.steps (at s) (at t) h.more later end comes.plays m;
        unfinished = λ later calls m. unfinished_on outer comes.steps (at s) (at t) h.more later calls comes.plays m;
        accounts = h.accounts;
      }

  wants_within : (s : S) (es : List Entry) (act : Act) → Wants (step s) es act → Wants (outer (at s)) es act
  wants_within s es act w = subst (λ p. Wants p es act) (sym (carries s)) (wants_front (step s) (λ n. Ends (lift n)) es act w)

  stopped : (s : S) (x : X) (end : Option X) (front rest es : List Entry) (calls : List Logged) → es ≡ front ++ rest → Plays (step s) front (Stop x) → Plays (Ends (Some x)) rest end → calls ≡ [] → IsUnfinished outer (at s) es calls
  stopped s x end front [] es calls whole a b none =
      subst (λ l. IsUnfinished outer (at s) l calls) (sym (append-nil front) ∙ sym whole)
      (unfinished_here outer (at s) front calls (inr (record { end = lift (Stop x); plays = plays_within s front (Stop x) a; none = none })))
  stopped s x end front (e ∷ rest) es calls whole a b none = absurd b

  ended_within : (n : ℕ) (s : S) (es : List Entry) (end : Option X) (calls : List Logged) → Plays (walk step n s) es end → calls ≡ [] → IsUnfinished outer (at s) es calls
  ended_within zero s [] end calls h none = record { steps = zero; off = inr (record { end = None; plays = refl; none = none }) }
  ended_within zero s (e ∷ es) end calls h none = absurd h
  ended_within (suc n) s es end calls h none =
      let parts = parts_of (step s) (on_with step n) es end h in
      elim parts.middle as (λ m. Plays (step s) parts.front m → Plays (on_with step n m) parts.rest end → IsUnfinished outer (at s) es calls) [
        | Stop x ↦ λ a b. stopped s x end parts.front parts.rest es calls parts.whole a b none
        | Go v ↦ λ a b.
            subst (λ l. IsUnfinished outer (at s) l calls) (sym parts.whole)
            (unfinished_go outer (at s) (at v) parts.front parts.rest calls (goes_within s v parts.front a) (ended_within n v parts.rest end calls b none))
      ] parts.plays_front parts.plays_rest

  wanted_after : (n : ℕ) (s : S) (m : Next S X) (front rest : List Entry) (calls : List Logged) (act : Act) → UnfinishedCalls act calls
      → ((v : S) → WantsAct (walk step n v) rest calls → IsUnfinished outer (at v) rest calls)
      → Plays (step s) front m → Wants (on_with step n m) rest act → IsUnfinished outer (at s) (front ++ rest) calls
  wanted_after n s (Stop x) front rest calls act leaves again p k = absurd k
  wanted_after n s (Go v) front rest calls act leaves again p k =
      unfinished_go outer (at s) (at v) front rest calls (goes_within s v front p) (again v (record { wanted = act; wants = k; leaves = leaves }))

  wanted_within : (n : ℕ) (s : S) (es : List Entry) (calls : List Logged) (w : WantsAct (walk step n s) es calls) → IsUnfinished outer (at s) es calls
  wanted_within zero s es calls w = absurd w.wants
  wanted_within (suc n) s es calls w = elim (wants_in (step s) (on_with step n) es w.wanted w.wants) [
    | in_first k ↦ unfinished_here outer (at s) es calls (inl (record { wanted = w.wanted; wants = wants_within s es w.wanted k; leaves = w.leaves }))
    | after_it m front rest whole p k ↦ subst (λ l. IsUnfinished outer (at s) l calls) (sym whole) (wanted_after n s m front rest calls w.wanted w.leaves (λ v u. wanted_within n v rest calls u) p k)
  ]

  pub interrupted_within : (s : S) (x y : JournalState) (a b : View) → Interrupted {X = X} step s x y a b → Interrupted {X = Y} outer (at s) x y a b
  interrupted_within s x y a b h = record {
    more = h.more;
    entries = h.entries;
    middle = h.middle;
    accounts = h.accounts;
    left_off = h.left_off;
    unfinished = elim h.unfinished.off [
      | inl w ↦ wanted_within h.unfinished.steps s h.more h.left_off w
      | inr e ↦ ended_within h.unfinished.steps s h.more e.end h.left_off e.plays e.none
    ];
    took = h.took;
  }
