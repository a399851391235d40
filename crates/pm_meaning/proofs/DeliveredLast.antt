-- A first process is delivered only by done acts of a recipe or a default mailbox to which it came.
use Rattle.std.proofs.Common.{◌≡◌, ◌⊎◌, inl, inr, ℕ, zero, suc, Bool, true, false, List, [], ◌∷◌, ◌++◌, Some, None, refl, sym, ap, ◌∙◌, subst, append_assoc, append-nil}
use Rattle.std.specs.Prelude.{if◌then◌else◌, nat_le}
use Rattle.pm_bytes.specs.declared.environment.Environ.{Environ}
use Rattle.pm_recipe.specs.Tree.{Trees}
use Rattle.pm_journal.specs.declared.acts.Entry.{Entry}
use Rattle.pm_journal.specs.Plan.{Ends, Plays}
use Rattle.pm_journal.specs.Walking.{Next, Stop, Go, walk, Means, ArrivesAt}
use Rattle.pm_journal.proofs.PlanJoin.{plays_then}
use Rattle.pm_journal.proofs.WalkJoin.{means_go, means_stop, arrives_go, arrives_here}
use Rattle.pm_meaning.specs.Chains.{succeeded}
use Rattle.pm_meaning.specs.Minds.{Mind}
use Rattle.pm_meaning.specs.declared.process.End.TheVariants.{Delivered}
use Rattle.pm_meaning.specs.Courses.{Others, Course, now_at, first_end, resumed, next_process, with_copy, onward, advance, alone, run_of}
use Rattle.pm_meaning.specs.Ends.{is_delivered}
use Rattle.pm_meaning.specs.RunLaws.{AreClosing, Finishes, ends_there, by_copies, DeliversLast}
use Rattle.pm_meaning.specs.Running.{State, Arrived, Running, Refusing, Item, Task, Event, Ended, WantsClone, clone_of, step}
use Rattle.pm_meaning.specs.declared.command_line.CommandLine.{CommandLine}
use Rattle.pm_meaning.specs.declared.ending.Ending.{Ending}
use Rattle.pm_meaning.proofs.Closings.{closing_join}
use Rattle.pm_meaning.proofs.FirstKept.{parts_through, on_with, kept}
use Rattle.pm_meaning.proofs.LastStep.{IsEnded, EndsOrDelivers, last_step, ended_last}
use Rattle.pm_meaning.proofs.OneOutcome.{not_over}

-- the first process is over as delivered, and does what comes at its end, and then only copies of it go on
record IsOverBy (c : Course) (es : List Entry) (z : Ending) : Type 0 where
  ended : IsEnded c.at
  behind : List Entry
  later : List Entry
  whole : es ≡ behind ++ later
  closing : AreClosing behind
  finishes : Finishes c behind later z

-- a first process that ends so is over, or came to where it delivers for good
abbrev OverOrDelivers : Course → List Entry → Ending → Type 0
OverOrDelivers c es z = IsOverBy c es z ⊎ DeliversLast c es z

-- a step of the process is one of the run
pub advanced : (o : Others) (s : State) (es : List Entry) (next : Next State Event) → Plays (step s) es next → Plays (advance (now_at o s)) es (onward o next)
advanced o s es next h =
    subst (λ l. Plays (advance (now_at o s)) l (onward o next)) (append-nil es)
    (plays_then (step s) (λ m. Ends (onward o m)) es [] next (onward o next) h refl)

-- a step, and then the rest
finishes_go : (c d : Course) (front es later : List Entry) (z : Ending) → Plays (advance c) front (Go d) → Finishes d es later z → Finishes c (front ++ es) later z
finishes_go c d front es later z h (ends_there none m) = ends_there none (means_go advance c d front es z h m)
finishes_go c d front es later z h (by_copies e is a m) = by_copies e is (arrives_go {X = Ending} advance c d e front es h a) m

-- after its last delivery, or once it is over, a first process goes on to its end
joined : (o : Others) (s : State) (front behind later es : List Entry) (z : Ending) → o.first ≡ None → EndsOrDelivers s front → es ≡ front ++ (behind ++ later) → AreClosing behind
    → Finishes (now_at o s) (front ++ behind) later z → OverOrDelivers (now_at o s) es z
joined o s front behind later es z none (inl over) whole closing f = inl (record {
  ended = over.ended;
  behind = front ++ behind;
  later = later;
  whole = whole ∙ sym (append_assoc front behind later);
  closing = closing_join front behind over.closing closing;
  finishes = f;
})
joined o s front behind later es z none (inr d) whole closing f = inr (record {
  before = [];
  asked = d.asked;
  last = d.last;
  behind = behind;
  later = later;
  whole = whole ∙ sym (append_assoc front behind later) ∙ ap (λ l. (l ++ behind) ++ later) d.whole;
  closing = closing;
  at = now_at o s;
  is_first = none;
  flags = d.flags;
  mind = d.mind;
  comes = arrives_here {X = Ending} advance (now_at o s);
  final = d.final;
  made = d.made;
  finishes = subst (λ l. Finishes (now_at o s) (l ++ behind) later z) d.whole f;
})

regroup : (front before last behind : List Entry) → front ++ (before ++ last ++ behind) ≡ front ++ before ++ last ++ behind
regroup front before last behind = sym (append_assoc front (before ++ last) behind) ∙ ap (λ l. l ++ behind) (sym (append_assoc front before last))

later_on : (c d : Course) (front rest es : List Entry) (z : Ending) → es ≡ front ++ rest → Plays (advance c) front (Go d) → DeliversLast d rest z → DeliversLast c es z
later_on c d front rest es z e h k =
    let lasts = k.asked ++ k.last in
    let grouped = regroup front k.before lasts k.behind in
    record {
      before = front ++ k.before;
      asked = k.asked;
      last = k.last;
      behind = k.behind;
      later = k.later;
      whole = e ∙ ap (λ l. front ++ l) k.whole ∙ sym (append_assoc front (k.before ++ lasts ++ k.behind) k.later) ∙ ap (λ l. l ++ k.later) grouped;
      closing = k.closing;
      at = k.at;
      is_first = k.is_first;
      flags = k.flags;
      mind = k.mind;
      comes = arrives_go {X = Ending} advance c d k.at front k.before h k.comes;
      final = k.final;
      made = k.made;
      finishes = subst (λ l. Finishes c l k.later z) grouped (finishes_go c d front (k.before ++ lasts ++ k.behind) k.later z h k.finishes);
    }

-- the process went on
went : (o : Others) (s t : State) (front rest es : List Entry) (z : Ending) → o.first ≡ None → es ≡ front ++ rest → Plays (step s) front (Go t) → OverOrDelivers (now_at o t) rest z → OverOrDelivers (now_at o s) es z
went o s t front rest es z none e h (inl over) =
    joined o s front over.behind over.later es z none (last_step s (Go t) front h (ended_last t over.ended)) (e ∙ ap (λ l. front ++ l) over.whole) over.closing
    (finishes_go (now_at o s) (now_at o t) front over.behind over.later z (advanced o s front (Go t) h) over.finishes)
went o s t front rest es z none e h (inr d) = inr (later_on (now_at o s) (now_at o t) front rest es z e (advanced o s front (Go t) h) d)

-- the run went on where the process isn't over
went_by : (c d : Course) (front rest es : List Entry) (z : Ending) → (IsEnded d.at → ⊥) → es ≡ front ++ rest → Plays (advance c) front (Go d) → OverOrDelivers d rest z → OverOrDelivers c es z
went_by c d front rest es z goes e h (inl over) = absurd (goes over.ended)
went_by c d front rest es z goes e h (inr k) = inr (later_on c d front rest es z e h k)

-- the process ended, and so did the run, or a copy goes on
record EndsSo (c : Course) (front rest : List Entry) (first z : Ending) : Type 0 where
  same : z ≡ first
  finishes : Finishes c front rest z

over_by : (n : ℕ) (c : Course) (queue : List Task) (made : ℕ) (first z : Ending) (placed openings : ℕ) (front rest : List Entry) → Plays (advance c) front (next_process queue made first placed openings)
    → Plays (on_with n (next_process queue made first placed openings)) rest (Some z) → EndsSo c front rest first z
over_by n c [] made first z placed openings front [] h k =
    let e : Some z ≡ Some first = k in
    let same : z ≡ first = cc in
    record { same = same; finishes = ends_there refl (subst (λ x. Means advance c front x) (sym same) (means_stop advance c front first h)) }
over_by n c [] made first z placed openings front (e ∷ rest) h k = absurd k
over_by n c (task ∷ tasks) made first z placed openings front rest h k =
    let o : Others = record { queue = tasks; made = made; first = Some first } in
    let d = now_at o (Running task.items (resumed task.mind placed openings)) in
    let same : z ≡ first = kept n o first d.at rest z refl k in
    let comes = subst (λ l. ArrivesAt {X = Ending} advance c l d) (append-nil front) (arrives_go {X = Ending} advance c d d front [] h (arrives_here {X = Ending} advance d)) in
    record { same = same; finishes = by_copies d (ap (λ (x : Ending). Some x) (sym same)) comes (record { steps = n; plays = k }) }

ended : (n : ℕ) (o : Others) (s : State) (ending z : Ending) (p : Mind) (front rest es : List Entry) → o.first ≡ None → es ≡ front ++ rest → Plays (step s) front (Stop (Ended ending p))
    → Plays (on_with n (onward o (Stop (Ended ending p)))) rest (Some z) → z.end ≡ Delivered → OverOrDelivers (now_at o s) es z
ended n o s ending z p front rest es none e h k good =
    let first = first_end o.first ending in
    let over = over_by n (now_at o s) o.queue o.made first z p.placed p.openings front rest (advanced o s front (Stop (Ended ending p)) h) k in
    let own : first ≡ ending = ap (λ f. first_end f ending) none in
    let same = over.same in
    let is : z ≡ ending = cc in
    let delivered : is_delivered ending.end ≡ true = ap is_delivered (sym (ap (λ (x : Ending). x.end) is) ∙ good) in
    joined o s front [] rest es z none (last_step s (Stop (Ended ending p)) front h delivered) e tt
    (subst (λ l. Finishes (now_at o s) l rest z) (sym (append-nil front)) over.finishes)

-- with so many steps a run whose first process ends so comes there
abbrev Walks : ℕ → Type 0
Walks n = (o : Others) (s : State) (es : List Entry) (z : Ending) → o.first ≡ None → Plays (walk advance n (now_at o s)) es (Some z) → z.end ≡ Delivered → OverOrDelivers (now_at o s) es z

-- a copy was made, or wasn't
copied_by : (b : Bool) (n : ℕ) (c : Course) (o : Others) (trees : Trees) (items : List Item) (p : Mind) (front rest es : List Entry) (z : Ending) → Walks n → o.first ≡ None → es ≡ front ++ rest
    → Plays (advance c) front (if b then Go (now_at o (Refusing items p)) else Go (now_at (with_copy (clone_of trees items p) o) (Running items (succeeded p))))
    → Plays (on_with n (if b then Go (now_at o (Refusing items p)) else Go (now_at (with_copy (clone_of trees items p) o) (Running items (succeeded p))))) rest (Some z)
    → z.end ≡ Delivered → OverOrDelivers c es z
copied_by true n c o trees items p front rest es z walks none e h k good =
    went_by c (now_at o (Refusing items p)) front rest es z (λ no. no) e h (walks o (Refusing items p) rest z none k good)
copied_by false n c o trees items p front rest es z walks none e h k good =
    let more = with_copy (clone_of trees items p) o in
    went_by c (now_at more (Running items (succeeded p))) front rest es z (λ no. no) e h (walks more (Running items (succeeded p)) rest z none k good)

by_event : (n : ℕ) (o : Others) (s : State) (event : Event) (front rest es : List Entry) (z : Ending) → Walks n → o.first ≡ None → es ≡ front ++ rest → Plays (step s) front (Stop event)
    → Plays (on_with n (onward o (Stop event))) rest (Some z) → z.end ≡ Delivered → OverOrDelivers (now_at o s) es z
by_event n o s (Ended ending p) front rest es z walks none e h k good = ended n o s ending z p front rest es none e h k good
by_event n o s (WantsClone trees items p) front rest es z walks none e h k good =
    copied_by (nat_le 16 o.made) n (now_at o s) o trees items p front rest es z walks none e (advanced o s front (Stop (WantsClone trees items p)) h) k good

walks_on : (n : ℕ) (o : Others) (s : State) (es : List Entry) (z : Ending) → o.first ≡ None → Plays (walk advance n (now_at o s)) es (Some z) → z.end ≡ Delivered → OverOrDelivers (now_at o s) es z
walks_on zero o s es z none h good = absurd (not_over es z h)
walks_on (suc n) o s es z none h good =
    let k = parts_through (step s) (onward o) (on_with n) es (Some z) h in
    elim k.middle as (λ m. Plays (step s) k.front m → Plays (on_with n (onward o m)) k.rest (Some z) → OverOrDelivers (now_at o s) es z) [
      | Stop event ↦ λ a b. by_event n o s event k.front k.rest es z (walks_on n) none k.whole a b good
      | Go t ↦ λ a b. went o s t k.front k.rest es z none k.whole a (walks_on n o t k.rest z none b good)
    ] k.plays_front k.plays_rest

pub delivered_is_done : (line : CommandLine) (env : Environ) (bytes : List ℕ) (es : List Entry) (ending : Ending) → Means advance (run_of line env bytes) es ending → ending.end ≡ Delivered
    → DeliversLast (run_of line env bytes) es ending
delivered_is_done line env bytes es z h good =
    elim (walks_on h.steps alone (Arrived line env bytes) es z refl h.plays good) [
      | inl over ↦ absurd over.ended
      | inr d ↦ d
    ]
