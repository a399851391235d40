-- Plans that are carried out one after the other.
use Rattle.std.proofs.Common.{◌≡◌, ◌<◌, ◌+◌, ℕ, List, ◌∷◌, Result, IfOk, drop, length, get_or, refl, sym, ap, ◌∙◌, subst}
use Rattle.std.proofs.lemmas.List.{at_drop_more}
use Rattle.pm_bytes.specs.declared.error.Memory.{Memory}
use Rattle.pm_journal.specs.JournalState.{JournalState}
use Rattle.pm_journal.specs.Entries.{View}
use Rattle.pm_journal.specs.Plan.{Plan, Ends, and_then}
use Rattle.pm_journal.specs.Executed.{Executes, OutOfMemory, Carries}
use Rattle.pm_journal.proofs.ActPlans.{executes_then}
use Rattle.pm_journal.proofs.WantsMemory.{executes_nothing, out_front, out_then, out_anywhere, on_err}
use Rattle.pm_meaning.proofs.Choices.{ok_map, err_map}

-- a plan was carried out, and then what comes of its end
pub then_carries : {R S A : Type 0} (p : Plan R) (f : R → Plan S) (r : R) (to : A → S) (answer : Result A Memory) (x y z : JournalState) (a b c : View) → Executes p r x y a b → Carries (f r) to answer y z b c
    → Carries (and_then p f) to answer x z a c
then_carries p f r to answer x y z a b c h k = (ok_map answer _ _ (λ v l. executes_then p f r (to v) x y z a b c h l) k.0, err_map answer _ _ (λ l. out_then p f r x y z a b c h l) k.1)

-- an answer that takes no act
pub known_carries : {R A : Type 0} (end : R) (to : A → R) (answer : Result A Memory) (x : JournalState) (s : View) → IfOk answer (λ v. end ≡ to v) → Carries (Ends end) to answer x x s s
known_carries end to answer x s h =
    (ok_map answer _ _ (λ v e. subst (λ l. Executes (Ends end) l x x s s) e (executes_nothing end x x s refl)) h, on_err answer _ (out_anywhere (Ends end) x x s refl))

-- the same plan under another form
pub out_same : {R : Type 0} (p q : Plan R) (x y : JournalState) (a b : View) → p ≡ q → OutOfMemory p x y a b → OutOfMemory q x y a b
out_same p q x y a b e h = subst (λ plan. OutOfMemory plan x y a b) e h

-- an answer that takes no act, by its value
pub known_as : {A R : Type 0} (value : A) (to : A → R) (answer : Result A Memory) (x : JournalState) (s : View) → IfOk answer (λ v. v ≡ value) → Carries (Ends (to value)) to answer x x s s
known_as value to answer x s h = (
  ok_map answer (λ v. v ≡ value) (λ v. Executes (Ends (to value)) (to v) x x s s) (λ v e. subst (λ w. Executes (Ends (to value)) (to w) x x s s) (sym e) (executes_nothing (to value) x x s refl)) h,
  on_err answer _ (out_anywhere (Ends (to value)) x x s refl),
)

-- the first of what is left of a list
pub front_of_rest : {A : Type 0} (items : List A) (i : ℕ) (d item : A) → item ≡ get_or items i d → i < length items → drop i items ≡ item ∷ drop (i + 1) items
front_of_rest items i d item is more = at_drop_more (λ l. l) items i d more ∙ ap (λ x. x ∷ drop (i + 1) items) (sym is)

-- a plan whose end is seen so
pub carries_seen : {R S A : Type 0} (p : Plan R) (see : R → S) (end : A → R) (to : A → S) (answer : Result A Memory) (x y : JournalState) (a b : View) → ((v : A) → see (end v) ≡ to v) → Carries p end answer x y a b
    → Carries (and_then p (λ r. Ends (see r))) to answer x y a b
carries_seen p see end to answer x y a b same h = (
  ok_map answer _ _ (λ v l. executes_then p (λ r. Ends (see r)) (end v) (to v) x y y a b b l (subst (λ s. Executes (Ends (see (end v))) s y y b b) (same v) (executes_nothing (see (end v)) y y b refl))) h.0,
  err_map answer _ _ (λ l. out_front p (λ r. Ends (see r)) x y a b l) h.1,
)
