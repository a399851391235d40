-- What holds at each end of a plan, whatever the replies are.
use Rattle.std.proofs.Common.{◌≡◌, ℕ, Bool, true, false, List, [], ◌∷◌, Option, Some, None, refl, sym, subst}
use Rattle.std.specs.Prelude.{if◌then◌else◌}
use Rattle.pm_journal.specs.Plan.{Plan, Ends, Asks, and_then, Plays}
use Rattle.pm_journal.specs.declared.acts.Entry.{Entry}
use Rattle.pm_journal.specs.declared.acts.Reply.{Reply}
use Rattle.pm_meaning.specs.Delivering.{say_each}
use Rattle.pm_meaning.specs.Logging.{log}
use Rattle.pm_meaning.specs.Minds.{Mind}
use Rattle.pm_meaning.specs.Outputs.{tell_maybe}
use Rattle.pm_meaning.specs.Turns.{say_then}

-- this holds at each end of the plan
abbrev pub Always : {R : Type 0} → (R → Type 0) → Plan R → Type 0
Always P (Ends r) = P r
Always P (Asks act go_on) = (reply : Reply) → Always P (go_on reply)

pub always_then : {R S : Type 0} (P : R → Type 0) (Q : S → Type 0) (plan : Plan R) (f : R → Plan S) → Always P plan → ((r : R) → P r → Always Q (f r)) → Always Q (and_then plan f)
always_then P Q (Ends r) f h k = k r h
always_then P Q (Asks act go_on) f h k = λ reply. always_then P Q (go_on reply) f (h reply) k

pub always_if : {R : Type 0} (P : R → Type 0) (b : Bool) (x y : Plan R) → Always P x → Always P y → Always P (if b then x else y)
always_if P true x y h k = h
always_if P false x y h k = k

-- where the test is known, one of the plans is enough
pub always_yes : {R : Type 0} (P : R → Type 0) (b : Bool) (x y : Plan R) → b ≡ true → Always P x → Always P (if b then x else y)
always_yes P b x y e h = subst (λ v. Always P (if v then x else y)) (sym e) h

-- the first of two plans may use that the test holds, and the second that it doesn't
pub always_by : {R : Type 0} (P : R → Type 0) (b : Bool) (x y : Plan R) → (b ≡ true → Always P x) → (b ≡ false → Always P y) → Always P (if b then x else y)
always_by P true x y h k = h refl
always_by P false x y h k = k refl

-- what follows from it holds too
pub always_so : {R : Type 0} (P Q : R → Type 0) (plan : Plan R) → ((r : R) → P r → Q r) → Always P plan → Always Q plan
always_so P Q (Ends r) f h = f r h
always_so P Q (Asks act go_on) f h = λ reply. always_so P Q (go_on reply) f (h reply)

-- it holds at the end that the plan comes to
pub always_plays : {R : Type 0} (P : R → Type 0) (plan : Plan R) (es : List Entry) (end : R) → Always P plan → Plays plan es end → P end
always_plays P (Ends r) [] end h k = subst P (sym k) h
always_plays P (Ends r) (e ∷ es) end h k = absurd k
always_plays P (Asks act go_on) [] end h k = absurd k
always_plays P (Asks act go_on) (e ∷ es) end h k = always_plays P (go_on e.reply) es end (h e.reply) k.2

always_any : {R : Type 0} (plan : Plan R) → Always (λ (r : R). Unit {0}) plan
always_any (Ends r) = tt
always_any (Asks act go_on) = λ reply. always_any (go_on reply)

-- after a plan whose end says nothing
pub always_after : {R S : Type 0} (Q : S → Type 0) (plan : Plan R) (f : R → Plan S) → ((r : R) → Always Q (f r)) → Always Q (and_then plan f)
always_after {R} Q plan f k = always_then (λ (r : R). Unit {0}) Q plan f (always_any plan) (λ r any. k r)

pub always_said : {R : Type 0} (Q : R → Type 0) (p : Mind) (text : List ℕ) (next : R) → Q next → Always Q (say_then p text next)
always_said Q p text next h = always_after Q (log text p) (λ done. Ends next) (λ done. h)

pub always_told : {R : Type 0} (Q : R → Type 0) (o : Option (List ℕ)) (p : Mind) (next : R) → Q next → Always Q (tell_maybe o p next)
always_told Q None p next h = h
always_told Q (Some text) p next h = always_said Q p text next h

pub always_each : {R : Type 0} (Q : R → Type 0) (p : Mind) (lines : List (List ℕ)) (next : R) → Q next → Always Q (say_each p lines next)
always_each Q p [] next h = h
always_each Q p (line ∷ lines) next h = always_after Q (log line p) (λ done. say_each p lines next) (λ done. always_each Q p lines next h)
