-- Once the first process has ended, the run ends as it did.
use Rattle.std.proofs.Common.{◌≡◌, ℕ, zero, suc, Bool, true, false, List, [], ◌∷◌, Option, Some, None, refl, ap, ◌∙◌}
use Rattle.std.specs.Prelude.{if◌then◌else◌, nat_le}
use Rattle.pm_journal.specs.declared.acts.Entry.{Entry}
use Rattle.pm_journal.specs.Plan.{Plan, Ends, Asks, and_then, Plays}
use Rattle.pm_journal.specs.Walking.{Next, Stop, Go, walk}
use Rattle.pm_journal.proofs.WalkJoin.{Parts}
use Rattle.pm_meaning.specs.Chains.{succeeded}
use Rattle.pm_meaning.specs.Minds.{Mind}
use Rattle.pm_meaning.specs.Courses.{Others, Course, now_at, first_end, resumed, next_process, with_copy, onward, advance}
use Rattle.pm_meaning.specs.Running.{State, Running, Refusing, Task, Event, Ended, WantsClone, clone_of, step}
use Rattle.pm_meaning.specs.declared.ending.Ending.{Ending}
use Rattle.pm_meaning.proofs.OneOutcome.{not_over}

-- what a plan did whose end is taken on in two ways, one after the other
pub parts_through : {R S T : Type 0} (p : Plan R) (f : R → S) (g : S → Plan T) (es : List Entry) (end : T) → Plays (and_then (and_then p (λ r. Ends (f r))) g) es end → Parts p (λ r. g (f r)) es end
parts_through (Ends r) f g es end h = record { middle = r; front = []; rest = es; whole = refl; plays_front = refl; plays_rest = h }
parts_through (Asks act go_on) f g [] end h = absurd h
parts_through (Asks act go_on) f g (e ∷ es) end h =
    let k = parts_through (go_on e.reply) f g es end h.2 in
    record { middle = k.middle; front = e ∷ k.front; rest = k.rest; whole = ap (λ l. e ∷ l) k.whole; plays_front = (h.0, h.1, k.plays_front); plays_rest = k.plays_rest }

-- the run goes on with so many steps
abbrev pub on_with : ℕ → Next Course Ending → Plan (Option Ending)
on_with n = λ next. elim next [ Stop z ↦ Ends (Some z) | Go d ↦ walk advance n d ]

-- the run goes on to one of two courses
pub one_of_two : (b : Bool) (n : ℕ) (c d : Course) (es : List Entry) (z : Ending) (P : Type 0) → (Plays (walk advance n c) es (Some z) → P) → (Plays (walk advance n d) es (Some z) → P)
    → Plays (on_with n (if b then Go c else Go d)) es (Some z) → P
one_of_two true n c d es z P first second h = first h
one_of_two false n c d es z P first second h = second h

-- within so many steps the run ends as its first process did
abbrev pub Kept : ℕ → Type 0
Kept n = (o : Others) (first : Ending) (s : State) (es : List Entry) (z : Ending) → o.first ≡ Some first → Plays (walk advance n (now_at o s)) es (Some z) → z ≡ first

pub next_kept : (n : ℕ) (queue : List Task) (made : ℕ) (first : Ending) (placed openings : ℕ) (es : List Entry) (z : Ending) → Kept n → Plays (on_with n (next_process queue made first placed openings)) es (Some z) → z ≡ first
next_kept n [] made first placed openings [] z keeps h = let e : Some z ≡ Some first = h in cc
next_kept n [] made first placed openings (e ∷ es) z keeps h = absurd h
next_kept n (task ∷ tasks) made first placed openings es z keeps h =
    keeps (record { queue = tasks; made = made; first = Some first }) first (Running task.items (resumed task.mind placed openings)) es z refl h

happened_kept : (n : ℕ) (o : Others) (first : Ending) (event : Event) (es : List Entry) (z : Ending) → Kept n → o.first ≡ Some first → Plays (on_with n (onward o (Stop event))) es (Some z) → z ≡ first
happened_kept n o first (Ended ending p) es z keeps is h =
    let ends = next_kept n o.queue o.made (first_end o.first ending) p.placed p.openings es z keeps h in
    let same : first_end o.first ending ≡ first = ap (λ f. first_end f ending) is in
    cc
happened_kept n o first (WantsClone trees items p) es z keeps is h =
    let task = clone_of trees items p in
    one_of_two (nat_le 16 o.made) n (now_at o (Refusing items p)) (now_at (with_copy task o) (Running items (succeeded p))) es z (z ≡ first)
    (λ l. keeps o first (Refusing items p) es z is l) (λ l. keeps (with_copy task o) first (Running items (succeeded p)) es z is l) h

pub kept : (n : ℕ) (o : Others) (first : Ending) (s : State) (es : List Entry) (z : Ending) → o.first ≡ Some first → Plays (walk advance n (now_at o s)) es (Some z) → z ≡ first
kept zero o first s es z is h = absurd (not_over es z h)
kept (suc n) o first s es z is h =
    let k = parts_through (step s) (onward o) (on_with n) es (Some z) h in
    elim k.middle as (λ m. Plays (on_with n (onward o m)) k.rest (Some z) → z ≡ first) [
      | Stop event ↦ λ l. happened_kept n o first event k.rest z (kept n) is l
      | Go t ↦ λ l. kept n o first t k.rest z is l
    ] k.plays_rest

-- the run ends as its first process did
pub over_own : (n : ℕ) (o : Others) (ending z : Ending) (p : Mind) (rest : List Entry) → o.first ≡ None → Plays (on_with n (onward o (Stop (Ended ending p)))) rest (Some z) → z ≡ ending
over_own n o ending z p rest none k =
    let over = next_kept n o.queue o.made (first_end o.first ending) p.placed p.openings rest z (kept n) k in
    over ∙ ap (λ f. first_end f ending) none
