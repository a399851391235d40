-- A run has one end over the same entries.
use Rattle.std.proofs.Common.{◌≡◌, ℕ, zero, suc, List, [], ◌∷◌, Option, Some, None}
use Rattle.pm_journal.specs.declared.acts.Act.{Act}
use Rattle.pm_journal.specs.declared.acts.Entry.{Entry}
use Rattle.pm_journal.specs.Plan.{Plan, Ends, Asks, and_then, Plays, Wants}
use Rattle.pm_journal.specs.Walking.{Next, Stop, Go, walk, Means}
use Rattle.pm_meaning.specs.Courses.{Course, advance}
use Rattle.pm_meaning.specs.declared.ending.Ending.{Ending}

pub ends_or_wants : (plan : Plan (Next Course Ending)) (es : List Entry) (end : Next Course Ending) (act : Act) → Plays plan es end → Wants plan es act → ⊥
ends_or_wants (Ends x) es end act p w = w
ends_or_wants (Asks wanted go_on) [] end act p w = p
ends_or_wants (Asks wanted go_on) (e ∷ es) end act p w = ends_or_wants (go_on e.reply) es end act p.2 w.2

-- two ways on from the same plan come to the same end where they do from each of its results
same_end : {R X : Type 0} (p : Plan R) (f g : R → Plan (Option X)) (es : List Entry) (x y : X)
    → ((r : R) (fs : List Entry) → Plays (f r) fs (Some x) → Plays (g r) fs (Some y) → x ≡ y) → Plays (and_then p f) es (Some x) → Plays (and_then p g) es (Some y) → x ≡ y
same_end (Ends r) f g es x y same h k = same r es h k
same_end (Asks act go_on) f g [] x y same h k = absurd h
same_end (Asks act go_on) f g (e ∷ es) x y same h k = same_end (go_on e.reply) f g es x y same h.2 k.2

pub not_over : {X : Type 0} (es : List Entry) (x : X) → Plays (Ends None) es (Some x) → ⊥
not_over [] x h = let e : Some x ≡ None = h in cc
not_over (e ∷ es) x h = h

same_stop : {X : Type 0} (z x y : X) (es : List Entry) → Plays (Ends (Some z)) es (Some x) → Plays (Ends (Some z)) es (Some y) → x ≡ y
same_stop z x y [] h k = let e : Some x ≡ Some z = h in let f : Some y ≡ Some z = k in cc
same_stop z x y (e ∷ es) h k = absurd h

walks_once : (n m : ℕ) (c : Course) (es : List Entry) (x y : Ending) → Plays (walk advance n c) es (Some x) → Plays (walk advance m c) es (Some y) → x ≡ y
walks_once zero m c es x y h k = absurd (not_over es x h)
walks_once (suc n) zero c es x y h k = absurd (not_over es y k)
walks_once (suc n) (suc m) c es x y h k =
    let f : Next Course Ending → Plan (Option Ending) = λ next. elim next [ Stop z ↦ Ends (Some z) | Go d ↦ walk advance n d ] in
    let g : Next Course Ending → Plan (Option Ending) = λ next. elim next [ Stop z ↦ Ends (Some z) | Go d ↦ walk advance m d ] in
    same_end (advance c) f g es x y (λ r. elim r as (λ next. (fs : List Entry) → Plays (f next) fs (Some x) → Plays (g next) fs (Some y) → x ≡ y) [
      | Stop z ↦ λ fs p q. same_stop z x y fs p q
      | Go d ↦ λ fs p q. walks_once n m d fs x y p q
    ]) h k

pub one_end : (c : Course) (es : List Entry) (x y : Ending) → Means advance c es x → Means advance c es y → x ≡ y
one_end c es x y h k = walks_once h.steps k.steps c es x y h.plays k.plays
