-- Over the same entries a run's first process comes to one end, with one status.
use Rattle.std.proofs.Common.{◌≡◌, ℕ, zero, suc, Bool, true, false, List, [], ◌∷◌, ◌++◌, Option, Some, None, refl, sym, ap, ◌∙◌, subst, append_assoc}
use Rattle.std.specs.Prelude.{if◌then◌else◌, nat_le}
use Rattle.pm_journal.specs.declared.acts.Entry.{Entry}
use Rattle.pm_journal.specs.Plan.{Plan, Ends, Asks, Plays}
use Rattle.pm_journal.specs.Walking.{Next, Stop, Go, reach, ArrivesAt}
use Rattle.pm_journal.proofs.WalkJoin.{never_some, parts_of, on_to}
use Rattle.pm_meaning.specs.Chains.{succeeded}
use Rattle.pm_meaning.specs.GlobalLock.{give_named}
use Rattle.pm_meaning.specs.Minds.{Mind}
use Rattle.pm_meaning.specs.declared.process.End.{End}
use Rattle.pm_meaning.specs.Courses.{Others, Course, now_at, first_end, resumed, next_process, with_copy, onward, advance}
use Rattle.pm_meaning.specs.EndStatus.{EndsBy}
use Rattle.pm_meaning.specs.Ends.{Trapped, trap}
use Rattle.pm_meaning.specs.Running.{State, Running, Refusing, Trapping, Unlocking, Closing, Task, Event, Ended, WantsClone, clone_of, ending_of, step}
use Rattle.pm_meaning.specs.Status.{exit_status}
use Rattle.pm_meaning.specs.declared.ending.Ending.{Ending}
use Rattle.pm_meaning.proofs.Closings.{given_end}
use Rattle.pm_meaning.proofs.FirstKept.{parts_through}
use Rattle.pm_meaning.proofs.Lines.{at_end, then_end}

-- two fronts of the same entries are one, with the same end
record IsSame {R : Type 0} (front other rest more : List Entry) (r s : R) : Type 0 where
  fronts : front ≡ other
  rests : rest ≡ more
  ends : r ≡ s

plays_once : {R : Type 0} (p : Plan R) (front other rest more : List Entry) (r s : R) → Plays p front r → Plays p other s → front ++ rest ≡ other ++ more → IsSame front other rest more r s
plays_once (Ends x) [] [] rest more r s h k is = let e : r ≡ x = h in let f : s ≡ x = k in record { fronts = refl; rests = is; ends = e ∙ sym f }
plays_once (Ends x) [] (e ∷ other) rest more r s h k is = absurd k
plays_once (Ends x) (e ∷ front) other rest more r s h k is = absurd h
plays_once (Asks act go_on) [] other rest more r s h k is = absurd h
plays_once (Asks act go_on) (e ∷ front) [] rest more r s h k is = absurd k
plays_once {R} (Asks act go_on) (e ∷ front) (f ∷ other) rest more r s h k is =
    let l : e ∷ front ++ rest ≡ f ∷ other ++ more = is in
    let same : f ≡ e = cc in
    let rests : front ++ rest ≡ other ++ more = cc in
    let again : Plays (go_on e.reply) other s = subst (λ (x : Entry). Plays (go_on x.reply) other s) same k.2 in
    let m = plays_once (go_on e.reply) front other rest more r s h.2 again rests in
    let fronts = m.fronts in
    record { fronts = cc; rests = m.rests; ends = m.ends }

-- a run whose first process has ended stays one
abbrev StaysEnded : ℕ → Type 0
StaysEnded n = (o : Others) (first : Ending) (s : State) (es : List Entry) (d : Course) → o.first ≡ Some first → Plays (reach {X = Ending} advance n (now_at o s)) es (Some d) → d.others.first ≡ Some first

-- one of two courses
by_one : (b : Bool) (n : ℕ) (c d : Course) (es : List Entry) (e : Course) (P : Type 0) → (Plays (reach {X = Ending} advance n c) es (Some e) → P) → (Plays (reach {X = Ending} advance n d) es (Some e) → P)
    → Plays (on_to {X = Ending} advance n (if b then Go c else Go d)) es (Some e) → P
by_one true n c d es e P one other h = one h
by_one false n c d es e P one other h = other h

next_ended : (n : ℕ) (queue : List Task) (made : ℕ) (first : Ending) (placed openings : ℕ) (es : List Entry) (d : Course) → StaysEnded n
    → Plays (on_to {X = Ending} advance n (next_process queue made first placed openings)) es (Some d) → d.others.first ≡ Some first
next_ended n [] made first placed openings es d stays h = absurd (never_some es d h)
next_ended n (task ∷ tasks) made first placed openings es d stays h =
    stays (record { queue = tasks; made = made; first = Some first }) first (Running task.items (resumed task.mind placed openings)) es d refl h

event_ended : (n : ℕ) (o : Others) (first : Ending) (event : Event) (es : List Entry) (d : Course) → StaysEnded n → o.first ≡ Some first
    → Plays (on_to {X = Ending} advance n (onward o (Stop event))) es (Some d) → d.others.first ≡ Some first
event_ended n o first (Ended ending p) es d stays is h =
    let same : first_end o.first ending ≡ first = ap (λ f. first_end f ending) is in
    subst (λ (x : Ending). d.others.first ≡ Some x) same (next_ended n o.queue o.made (first_end o.first ending) p.placed p.openings es d stays h)
event_ended n o first (WantsClone trees items p) es d stays is h =
    let task = clone_of trees items p in
    by_one (nat_le 16 o.made) n (now_at o (Refusing items p)) (now_at (with_copy task o) (Running items (succeeded p))) es d (d.others.first ≡ Some first)
    (λ l. stays o first (Refusing items p) es d is l) (λ l. stays (with_copy task o) first (Running items (succeeded p)) es d is l) h

at_first : (o : Others) (first : Ending) (s : State) (es : List Entry) (d : Course) → o.first ≡ Some first → Plays (Ends (Some (now_at o s))) es (Some d) → d.others.first ≡ Some first
at_first o first s [] d is h = let e : Some d ≡ Some (now_at o s) = h in let same : d ≡ now_at o s = cc in ap (λ (c : Course). c.others.first) same ∙ is
at_first o first s (e ∷ es) d is h = absurd h

stays_ended : (n : ℕ) (o : Others) (first : Ending) (s : State) (es : List Entry) (d : Course) → o.first ≡ Some first → Plays (reach {X = Ending} advance n (now_at o s)) es (Some d) → d.others.first ≡ Some first
stays_ended zero o first s es d is h = at_first o first s es d is h
stays_ended (suc n) o first s es d is h =
    let k = parts_through (step s) (onward o) (on_to {X = Ending} advance n) es (Some d) h in
    elim k.middle as (λ m. Plays (on_to {X = Ending} advance n (onward o m)) k.rest (Some d) → d.others.first ≡ Some first) [
      | Stop event ↦ λ l. event_ended n o first event k.rest d (stays_ended n) is l
      | Go t ↦ λ l. stays_ended n o first t k.rest d is l
    ] k.plays_rest

abbrev is_trapping : Option Course → Bool
is_trapping None = false
is_trapping (Some c) = elim c.at [ Trapping end p ↦ true | other ↦ false ]

-- over these entries so many steps lead the first process to its program of TRAP
record ComesIn (n : ℕ) (c : Course) (es : List Entry) (d : Course) : Type 0 where
  plays : Plays (reach {X = Ending} advance n c) es (Some d)
  traps : is_trapping (Some d) ≡ true
  none : d.others.first ≡ None

-- it doesn't stand there
not_here : (c : Course) (es : List Entry) (d : Course) → is_trapping (Some c) ≡ false → ComesIn zero c es d → ⊥
not_here c es d fails h =
    let a = at_end (Some c) es (Some d) h.plays in
    let e : is_trapping (Some d) ≡ is_trapping (Some c) = ap is_trapping a.same in
    let clash : true ≡ false = sym h.traps ∙ e ∙ fails in
    absurd (cc)

closing_never : (n : ℕ) (o : Others) (ending : Ending) (p : Mind) (es : List Entry) (d : Course) → ComesIn n (now_at o (Closing ending p)) es d → ⊥
closing_never zero o ending p es d h = not_here (now_at o (Closing ending p)) es d refl h
closing_never (suc n) o ending p es d h =
    let k = parts_through (step (Closing ending p)) (onward o) (on_to {X = Ending} advance n) es (Some d) h.plays in
    let last : Next State Event = Stop (Ended ending p) in
    let is = given_end p.locks last k.front k.middle k.plays_front in
    let on = subst (λ m. Plays (on_to {X = Ending} advance n (onward o m)) k.rest (Some d)) is k.plays_rest in
    let first : d.others.first ≡ Some (first_end o.first ending) = next_ended n o.queue o.made (first_end o.first ending) p.placed p.openings k.rest d (stays_ended n) on in
    let none = h.none in
    let clash : Some (first_end o.first ending) ≡ None = sym first ∙ none in
    absurd (cc)

unlocking_never : (n : ℕ) (o : Others) (ending : Ending) (p : Mind) (es : List Entry) (d : Course) → ComesIn n (now_at o (Unlocking ending p)) es d → ⊥
unlocking_never zero o ending p es d h = not_here (now_at o (Unlocking ending p)) es d refl h
unlocking_never (suc n) o ending p es d h =
    let k = parts_through (step (Unlocking ending p)) (onward o) (on_to {X = Ending} advance n) es (Some d) h.plays in
    let a = then_end (give_named p.global p) (λ q. Go (Closing ending q)) k.front k.middle k.plays_front in
    let on = subst (λ m. Plays (on_to {X = Ending} advance n (onward o m)) k.rest (Some d)) a.2 k.plays_rest in
    closing_never n o ending a.0 k.rest d (record { plays = on; traps = h.traps; none = h.none })

trapping_never : (n : ℕ) (o : Others) (end : End) (p : Mind) (es : List Entry) (d : Course) → ComesIn (suc n) (now_at o (Trapping end p)) es d → ⊥
trapping_never n o end p es d h =
    let k = parts_through (step (Trapping end p)) (onward o) (on_to {X = Ending} advance n) es (Some d) h.plays in
    let a = then_end (trap end p) (λ t. Go (Unlocking (ending_of end t.code t.mind) t.mind)) k.front k.middle k.plays_front in
    let on = subst (λ m. Plays (on_to {X = Ending} advance n (onward o m)) k.rest (Some d)) a.2 k.plays_rest in
    unlocking_never n o (ending_of end a.0.code a.0.mind) a.0.mind k.rest d (record { plays = on; traps = h.traps; none = h.none })

-- where it stands there it doesn't come there again
never_again : (m : ℕ) (o : Others) (s : State) (es : List Entry) (d : Course) → is_trapping (Some (now_at o s)) ≡ true → ComesIn (suc m) (now_at o s) es d → ⊥
never_again m o (Trapping end p) es d traps h = trapping_never m o end p es d h
never_again m o other es d traps h = let clash : false ≡ true = traps in absurd (cc)

here_only : (m : ℕ) (c d e : Course) (front other : List Entry) → ComesIn zero c front d → ComesIn (suc m) c other e → ⊥
here_only m c d e front other h k =
    let a = at_end (Some c) front (Some d) h.plays in
    let is : is_trapping (Some c) ≡ true = sym (ap is_trapping a.same) ∙ h.traps in
    never_again m c.others c.at other e is k

comes_once : (n m : ℕ) (c d e : Course) (front other rest more : List Entry) → ComesIn n c front d → ComesIn m c other e → front ++ rest ≡ other ++ more → IsSame front other rest more d e
comes_once zero zero c d e front other rest more h k is =
    let a = at_end (Some c) front (Some d) h.plays in
    let b = at_end (Some c) other (Some e) k.plays in
    let first = a.none in
    let second = b.none in
    let same : Some d ≡ Some e = a.same ∙ sym b.same in
    record { fronts = first ∙ sym second; rests = sym (ap (λ l. l ++ rest) first) ∙ is ∙ ap (λ l. l ++ more) second; ends = cc }
comes_once zero (suc m) c d e front other rest more h k is = absurd (here_only m c d e front other h k)
comes_once (suc n) zero c d e front other rest more h k is = absurd (here_only n c e d other front k h)
comes_once (suc n) (suc m) c d e front other rest more h k is =
    let a = parts_of (advance c) (on_to {X = Ending} advance n) front (Some d) h.plays in
    let b = parts_of (advance c) (on_to {X = Ending} advance m) other (Some e) k.plays in
    let whole : a.front ++ (a.rest ++ rest) ≡ b.front ++ (b.rest ++ more) =
    sym (append_assoc a.front a.rest rest) ∙ ap (λ l. l ++ rest) (sym a.whole) ∙ is ∙ ap (λ l. l ++ more) b.whole ∙ append_assoc b.front b.rest more in
    let one = plays_once (advance c) a.front b.front (a.rest ++ rest) (b.rest ++ more) a.middle b.middle a.plays_front b.plays_front whole in
    let second : Plays (on_to {X = Ending} advance m a.middle) b.rest (Some e) = subst (λ x. Plays (on_to {X = Ending} advance m x) b.rest (Some e)) (sym one.ends) b.plays_rest in
    let joined : (l : IsSame a.rest b.rest rest more d e) → IsSame front other rest more d e = λ l.
    record { fronts = a.whole ∙ ap (λ x. x ++ a.rest) one.fronts ∙ ap (λ x. b.front ++ x) l.fronts ∙ sym b.whole; rests = l.rests; ends = l.ends } in
    elim a.middle as (λ x. Plays (on_to {X = Ending} advance n x) a.rest (Some d) → Plays (on_to {X = Ending} advance m x) b.rest (Some e) → IsSame front other rest more d e) [
      | Stop z ↦ λ p q. absurd (never_some a.rest d p)
      | Go t ↦ λ p q.
          joined (comes_once n m t d e a.rest b.rest rest more (record { plays = p; traps = h.traps; none = h.none }) (record { plays = q; traps = k.traps; none = k.none }) one.rests)
    ] a.plays_rest second

-- the end and the process of such a state
same_end : (end other : End) (p q : Mind) (o r : Others) → now_at o (Trapping end p) ≡ now_at r (Trapping other q) → (end ≡ other) × (p ≡ q)
same_end end other p q o r is = let e : Trapping end p ≡ Trapping other q = ap (λ (c : Course). c.at) is in (cc, cc)

same_ending : (a b : Ending) → a.end ≡ b.end → a.status ≡ b.status → a ≡ b
same_ending a b e f =
    subst (λ (x : End). ◌≡◌ {A = Ending} a (record { end = x; status = b.status })) e
    (subst (λ (x : ℕ). ◌≡◌ {A = Ending} a (record { end = a.end; status = x })) f refl)

pub ends_one_way : (c : Course) (es : List Entry) (a b : Ending) → EndsBy c es a → EndsBy c es b → a ≡ b
ends_one_way c es a b h k =
    let d = now_at h.comes.0 (Trapping a.end h.mind) in
    let e = now_at k.comes.0 (Trapping b.end k.mind) in
    let first : ArrivesAt {X = Ending} advance c h.before d = h.comes.2 in
    let second : ArrivesAt {X = Ending} advance c k.before e = k.comes.2 in
    let one = comes_once first.steps second.steps c d e h.before k.before (h.trapped ++ h.later) (k.trapped ++ k.later)
    (record { plays = first.plays; traps = refl; none = h.comes.1 }) (record { plays = second.plays; traps = refl; none = k.comes.1 }) (sym h.whole ∙ k.whole) in
    let ends = same_end a.end b.end h.mind k.mind h.comes.0 k.comes.0 one.ends in
    let again : Plays (trap a.end h.mind) k.trapped k.left =
    subst (λ (x : End). Plays (trap x h.mind) k.trapped k.left) (sym ends.0) (subst (λ (x : Mind). Plays (trap b.end x) k.trapped k.left) (sym ends.1) k.ran) in
    let ran = plays_once (trap a.end h.mind) h.trapped k.trapped h.later k.later h.left k.left h.ran again one.rests in
    let status : a.status ≡ b.status =
    h.status ∙ ap (λ (x : End). exit_status x h.left.code h.left.mind) ends.0 ∙ ap (λ (x : Trapped). exit_status b.end x.code x.mind) ran.ends ∙ sym k.status in
    same_ending a b ends.0 status
