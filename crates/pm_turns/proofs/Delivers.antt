-- A schedule in which each writer delivers.
use Rattle.std.proofs.Common.{◌≡◌, ◌≤◌, ℕ, ◌+◌, ◌-◌, Bool, true, false, cond, List, [], ◌∷◌, ◌++◌, length, map, take, drop, Option, Some, None, refl, sym, ap, ◌∙◌, subst, arith, append_assoc, append-nil, nat_eq, take_all, slice_get, slice_set, zero, suc}
use Rattle.std.proofs.lemmas.Bool.Decides.{Decides-eqb}
use Rattle.pm_host.specs.declared.answers.Removed.TheVariants.{Removed as RemovedDone}
use Rattle.pm_journal.specs.declared.appending.AppendEnd.TheVariants.{Done}
use Rattle.pm_journal.specs.declared.appending.AppendState.TheVariants.{Creating, Writing}
use Rattle.pm_journal.specs.declared.appending.AppendStep.{AppendStep}
use Rattle.pm_journal.specs.declared.appending.AppendStep.TheVariants.{Append as AskAppend, Sync as AskSync}
use Rattle.pm_journal.specs.declared.locking.LockRule.{LockRule}
use Rattle.pm_append.specs.Machine.{Machine as Append, appending, appending_heard}
use Rattle.pm_locks.specs.Machine.{taking}
use Rattle.pm_turns.specs.declared.writers.Delivery.{Delivery}
use Rattle.pm_turns.specs.declared.writers.Place.{Place}
use Rattle.pm_turns.specs.declared.writers.Place.TheVariants.{Locking, Appending, Giving, Gone}
use Rattle.pm_turns.specs.declared.writers.Will.{Will}
use Rattle.pm_turns.specs.declared.writers.Will.TheVariants.{Serve}
use Rattle.pm_turns.specs.declared.writers.Writer.{Writer}
use Rattle.pm_turns.specs.Turning.{Turning, Event, event, part_of, append_answer, mailbox_after, text, append_place, at_step, delivery, place_by, mailbox_by, outcome_by, is_over, put, turn, happens, run, begun, rule_of}
use Rattle.pm_turns.proofs.Listed.{nat_other}
use Rattle.pm_turns.specs.Laws.{Opening, opened, AllDelivered, all_pieces}

-- writers before, this one, and writers after it
abbrev among : List Delivery → List Delivery → List ℕ → Place → Option (List ℕ) → Bool → List ℕ → Turning
among ds rest piece place mailbox locked order = record { mailbox = mailbox; locked = locked; writers = ds ++ delivery piece place ∷ rest; order = order; forced = false }

get_at : (ds rest : List Delivery) (d : Delivery) → slice_get (ds ++ d ∷ rest) (length ds) ≡ Some d
get_at [] rest d = refl
get_at (x ∷ ds) rest d = get_at ds rest d

set_at : (ds rest : List Delivery) (d new : Delivery) → slice_set (ds ++ d ∷ rest) (length ds) new ≡ ds ++ new ∷ rest
set_at [] rest d new = refl
set_at (x ∷ ds) rest d new = ap (λ xs. x ∷ xs) (set_at ds rest d new)

-- it goes on so
abbrev next : List Delivery → List Delivery → List ℕ → Place → Option (List ℕ) → Bool → List ℕ → Will → Turning
next ds rest piece place mailbox locked order will = record {
  mailbox = mailbox_by piece place mailbox will;
  locked = (outcome_by place locked will).locked;
  writers = ds ++ delivery piece (place_by piece place mailbox locked will) ∷ rest;
  order = cond (outcome_by place locked will).got (order ++ length ds ∷ []) order;
  forced = (outcome_by place locked will).forced;
}

one : (ds rest : List Delivery) (piece : List ℕ) (place : Place) (mailbox : Option (List ℕ)) (locked : Bool) (order : List ℕ) (will : Will) → is_over place ≡ false
    → happens (among ds rest piece place mailbox locked order) (event (length ds) will) ≡ next ds rest piece place mailbox locked order will
one ds rest piece place mailbox locked order will begins =
    let s = among ds rest piece place mailbox locked order in
    ap (λ x. turn s (length ds) x will) (get_at ds rest (delivery piece place))
    ∙ ap (λ b. cond b s (put s (length ds) piece (place_by piece place mailbox locked will) (mailbox_by piece place mailbox will) (outcome_by place locked will))) begins
    ∙ ap (λ xs. record {
      mailbox = mailbox_by piece place mailbox will;
      locked = (outcome_by place locked will).locked;
      writers = xs;
      order = cond (outcome_by place locked will).got (order ++ length ds ∷ []) order;
      forced = (outcome_by place locked will).forced;
    }) (set_at ds rest (delivery piece place) (delivery piece (place_by piece place mailbox locked will)))

abbrev Reaches : Turning → (Turning → Type 0) → Type 0
Reaches s P = (es : List Event) × P (run es s)

first : (s t : Turning) (e : Event) (P : Turning → Type 0) → happens s e ≡ t → Reaches t P → Reaches s P
first s t e P h r = (e ∷ r.0, subst P (ap (run r.0) (sym h)) r.1)

abbrev pub writing : ℕ → Bool → ℕ → ℕ → Append
writing len made old taken = record { len = len; sync = true; at = Writing made old taken }

pub still : (len : ℕ) (made : Bool) (old taken : ℕ) → append_place (writing len made old taken) ≡ Appending (writing len made old taken)
still len made old taken = elim (nat_eq taken len) as (λ b. at_step (writing len made old taken) (cond b AskSync (AskAppend taken)) ≡ Appending (writing len made old taken)) [ true ↦ refl | false ↦ refl ]

-- the holder's append after the answer to this step
abbrev asked : List Delivery → List Delivery → List ℕ → Append → List ℕ → List ℕ → ℕ → AppendStep → Turning
asked ds rest piece a bytes order n step =
    among ds rest piece (append_place (appending_heard a (append_answer step (length piece) (Some bytes) (Serve n)))) (mailbox_after step (append_answer step (length piece) (Some bytes) (Serve n)) piece (Some bytes)) true order

-- all is written: the sync, and the lock given back
ends : (ds rest : List Delivery) (piece : List ℕ) (made : Bool) (old taken : ℕ) (bytes : List ℕ) (order : List ℕ) (P : Turning → Type 0) → nat_eq taken (length piece) ≡ true
    → Reaches (among ds rest piece (Gone Done RemovedDone) (Some bytes) false order) P → Reaches (among ds rest piece (Appending (writing (length piece) made old taken)) (Some bytes) true order) P
ends ds rest piece made old taken bytes order P full r =
    first (among ds rest piece (Appending (writing (length piece) made old taken)) (Some bytes) true order) (among ds rest piece (Giving Done) (Some bytes) true order) (event (length ds) (Serve 0)) P
    (one ds rest piece (Appending (writing (length piece) made old taken)) (Some bytes) true order (Serve 0) refl
    ∙ ap (λ b. asked ds rest piece (writing (length piece) made old taken) bytes order 0 (cond b AskSync (AskAppend taken))) full)
    (first (among ds rest piece (Giving Done) (Some bytes) true order) (among ds rest piece (Gone Done RemovedDone) (Some bytes) false order) (event (length ds) (Serve 0)) P
    (one ds rest piece (Giving Done) (Some bytes) true order (Serve 0) refl) r)

all_taken : (n : ℕ) → 1 ≤ n → part_of (n - 0) n ≡ n
all_taken n h = omega arith

none_more : (n : ℕ) → 0 + n ≡ n
none_more n = omega arith

same : (n : ℕ) → nat_eq n n ≡ true
same n = (Decides-eqb n n).1 refl

-- all is written by one call
writes : (ds rest : List Delivery) (piece : List ℕ) (made : Bool) (old : ℕ) (bytes : List ℕ) (order : List ℕ) (P : Turning → Type 0)
    → Reaches (among ds rest piece (Gone Done RemovedDone) (Some (bytes ++ piece)) false order) P → Reaches (among ds rest piece (Appending (writing (length piece) made old 0)) (Some bytes) true order) P
writes ds rest [] made old bytes order P r =
    ends ds rest [] made old 0 bytes order P refl (subst (λ t. Reaches (among ds rest [] (Gone Done RemovedDone) (Some t) false order) P) (append-nil bytes) r)
writes ds rest (b ∷ bs) made old bytes order P r =
    let len = length (b ∷ bs) in
    first (among ds rest (b ∷ bs) (Appending (writing len made old 0)) (Some bytes) true order) (among ds rest (b ∷ bs) (Appending (writing len made old len)) (Some (bytes ++ (b ∷ bs))) true order) (event (length ds) (Serve len)) P
    (one ds rest (b ∷ bs) (Appending (writing len made old 0)) (Some bytes) true order (Serve len) refl
    ∙ ap (λ c. asked ds rest (b ∷ bs) (writing len made old 0) bytes order len (cond c AskSync (AskAppend 0))) (nat_other 0 len (λ e. let bad : 1 ≤ 0 = subst (λ k. 1 ≤ k) (sym e) (omega arith) in absurd (omega (arith, bad))))
    ∙ ap (λ k. among ds rest (b ∷ bs) (append_place (writing len made old (0 + k))) (Some (bytes ++ take k (drop 0 (b ∷ bs)))) true order) (all_taken len (omega arith))
    ∙ ap (λ k. among ds rest (b ∷ bs) (append_place (writing len made old k)) (Some (bytes ++ take len (drop 0 (b ∷ bs)))) true order) (none_more len)
    ∙ ap (λ p. among ds rest (b ∷ bs) p (Some (bytes ++ take len (b ∷ bs))) true order) (still len made old len)
    ∙ ap (λ t. among ds rest (b ∷ bs) (Appending (writing len made old len)) (Some (bytes ++ t)) true order) (take_all len (b ∷ bs) (omega arith)))
    (ends ds rest (b ∷ bs) made old len (bytes ++ (b ∷ bs)) order P (same len) r)

-- the lock is held: the file is looked for, or made
appends : (ds rest : List Delivery) (piece : List ℕ) (mailbox : Option (List ℕ)) (order : List ℕ) (P : Turning → Type 0)
    → Reaches (among ds rest piece (Gone Done RemovedDone) (Some (text mailbox ++ piece)) false order) P → Reaches (among ds rest piece (Appending (appending (length piece) true)) mailbox true order) P
appends ds rest piece (Some bytes) order P r =
    first (among ds rest piece (Appending (appending (length piece) true)) (Some bytes) true order) (among ds rest piece (Appending (writing (length piece) false (length bytes) 0)) (Some bytes) true order) (event (length ds) (Serve 0)) P
    (one ds rest piece (Appending (appending (length piece) true)) (Some bytes) true order (Serve 0) refl
    ∙ ap (λ p. among ds rest piece p (Some bytes) true order) (still (length piece) false (length bytes) 0))
    (writes ds rest piece false (length bytes) bytes order P r)
appends ds rest piece None order P r =
    let created : Append = record { len = length piece; sync = true; at = Creating } in
    first (among ds rest piece (Appending (appending (length piece) true)) None true order) (among ds rest piece (Appending created) None true order) (event (length ds) (Serve 0)) P
    (one ds rest piece (Appending (appending (length piece) true)) None true order (Serve 0) refl)
    (first (among ds rest piece (Appending created) None true order) (among ds rest piece (Appending (writing (length piece) true 0 0)) (Some []) true order) (event (length ds) (Serve 0)) P
    (one ds rest piece (Appending created) None true order (Serve 0) refl ∙ ap (λ p. among ds rest piece p (Some []) true order) (still (length piece) true 0 0))
    (writes ds rest piece true 0 [] order P r))

delivers : (ds rest : List Delivery) (piece : List ℕ) (rule : LockRule) (mailbox : Option (List ℕ)) (order : List ℕ) (P : Turning → Type 0)
    → Reaches (among ds rest piece (Gone Done RemovedDone) (Some (text mailbox ++ piece)) false (order ++ length ds ∷ [])) P → Reaches (among ds rest piece (Locking (taking rule)) mailbox false order) P
delivers ds rest piece rule mailbox order P r =
    first (among ds rest piece (Locking (taking rule)) mailbox false order) (among ds rest piece (Appending (appending (length piece) true)) mailbox true (order ++ length ds ∷ [])) (event (length ds) (Serve 0)) P
    (one ds rest piece (Locking (taking rule)) mailbox false order (Serve 0) refl) (appends ds rest piece mailbox (order ++ length ds ∷ []) P r)

abbrev AllDone : List Delivery → Type 0
AllDone [] = Unit {0}
AllDone (d ∷ ds) = (d.place ≡ Gone Done RemovedDone) × AllDone ds

one_more : (ds : List Delivery) (d : Delivery) → AllDone ds → d.place ≡ Gone Done RemovedDone → AllDone (ds ++ d ∷ [])
one_more [] d h e = (e, tt)
one_more (x ∷ ds) d h e = (h.0, one_more ds d h.1 e)

each_done : (ds : List Delivery) (i : ℕ) (d : Delivery) → AllDone ds → slice_get ds i ≡ Some d → d.place ≡ Gone Done RemovedDone
each_done [] i d h e = absurd (cc)
each_done (x ∷ ds) zero d h e = let f : x ≡ d = cc in subst (λ y. y.place ≡ Gone Done RemovedDone) f h.0
each_done (x ∷ ds) (suc i) d h e = each_done ds i d h.1 e

record Ready (writers : List Delivery) (bytes : List ℕ) (s : Turning) : Type 0 where
  unforced : s.forced ≡ false
  free : s.locked ≡ false
  done : (i : ℕ) (d : Delivery) → slice_get s.writers i ≡ Some d → d.place ≡ Gone Done RemovedDone
  is : text s.mailbox ≡ bytes

abbrev waiting : List Delivery → List Writer → Option (List ℕ) → List ℕ → Turning
waiting ds ws mailbox order = record { mailbox = mailbox; locked = false; writers = ds ++ map begun ws; order = order; forced = false }

all : (ws : List Writer) (ds : List Delivery) (mailbox : Option (List ℕ)) (order : List ℕ) → AllDone ds
    → Reaches (waiting ds ws mailbox order) (Ready ds (text mailbox ++ all_pieces ws))
all [] ds mailbox order h = (
  [],
  record {
    unforced = refl;
    free = refl;
    done = λ i d e. each_done ds i d h (subst (λ xs. slice_get xs i ≡ Some d) (append-nil ds) e);
    is = sym (append-nil (text mailbox));
  },
)
all (w ∷ ws) ds mailbox order h =
    let d = delivery w.piece (Gone Done RemovedDone) in
    let later = all ws (ds ++ d ∷ []) (Some (text mailbox ++ w.piece)) (order ++ length ds ∷ []) (one_more ds d h refl) in
    let there = subst (λ xs. Reaches (record { mailbox = Some (text mailbox ++ w.piece); locked = false; writers = xs; order = order ++ length ds ∷ []; forced = false }) (Ready (ds ++ d ∷ []) ((text mailbox ++ w.piece) ++ all_pieces ws)))
    (append_assoc ds (d ∷ []) (map begun ws)) later in
    delivers ds (map begun ws) w.piece (rule_of w) mailbox order (Ready ds (text mailbox ++ (w.piece ++ all_pieces ws))) (
      there.0,
      record {
        unforced = there.1.unforced;
        free = there.1.free;
        done = there.1.done;
        is = there.1.is ∙ append_assoc (text mailbox) w.piece (all_pieces ws);
      },
    )

pub delivers_all : (o : Opening) → o.locked ≡ false → Reaches (opened o) (AllDelivered o)
delivers_all o free =
    let r = all o.writers [] o.mailbox [] tt in
    let from = subst (λ b. Reaches (record { mailbox = o.mailbox; locked = b; writers = map begun o.writers; order = []; forced = false }) (Ready [] (text o.mailbox ++ all_pieces o.writers))) (sym free) r in
    (from.0, record { unforced = from.1.unforced; free = from.1.free; done = from.1.done; is = from.1.is })
