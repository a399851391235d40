-- A choice that was made in a plan, and lines that are said.
use Rattle.std.proofs.Common.{◌≡◌, Bool, true, false, List, ℕ, Result, Ok, Err, IfOk, OnErr, refl, sym, ap, subst}
use Rattle.pm_bytes.specs.declared.error.Memory.{Memory}
use Rattle.std.specs.Prelude.{if◌then◌else◌}
use Rattle.pm_journal.specs.JournalState.{JournalState}
use Rattle.pm_journal.specs.Entries.{View}
use Rattle.pm_journal.specs.Plan.{Plan, Ends}
use Rattle.pm_journal.specs.Executed.{Executes, OutOfMemory, Carries}
use Rattle.pm_meaning.specs.Logging.{log, logged}
use Rattle.pm_meaning.specs.Minds.{Mind}
use Rattle.pm_meaning.specs.Turns.{say_then}
use Rattle.pm_journal.proofs.ActPlans.{executes_then}
use Rattle.pm_journal.proofs.WantsMemory.{executes_nothing, out_front, out_then, out_anywhere}

pub choose_then : {R : Type 0} (b : Bool) (p q : Plan R) (end : R) (x y : JournalState) (s t : View) → b ≡ true → Executes p end x y s t → Executes (if b then p else q) end x y s t
choose_then b p q end x y s t e h = subst (λ v. Executes (if v then p else q) end x y s t) (sym e) h

pub choose_else : {R : Type 0} (b : Bool) (p q : Plan R) (end : R) (x y : JournalState) (s t : View) → b ≡ false → Executes q end x y s t → Executes (if b then p else q) end x y s t
choose_else b p q end x y s t e h = subst (λ v. Executes (if v then p else q) end x y s t) (sym e) h

pub then_out : {R : Type 0} (b : Bool) (p q : Plan R) (x y : JournalState) (s t : View) → b ≡ true → OutOfMemory p x y s t → OutOfMemory (if b then p else q) x y s t
then_out b p q x y s t e h = subst (λ v. OutOfMemory (if v then p else q) x y s t) (sym e) h

pub else_out : {R : Type 0} (b : Bool) (p q : Plan R) (x y : JournalState) (s t : View) → b ≡ false → OutOfMemory q x y s t → OutOfMemory (if b then p else q) x y s t
else_out b p q x y s t e h = subst (λ v. OutOfMemory (if v then p else q) x y s t) (sym e) h

-- a text was said, and then this comes
pub line_told : {R : Type 0} (p : Mind) (line text : List ℕ) (next : R) (x y : JournalState) (a b : View) → text ≡ line → Executes (log text p) logged x y a b → Executes (say_then p line next) next x y a b
line_told p line text next x y a b t h =
    executes_then (log line p) (λ done. Ends next) logged next x y y a b b (subst (λ l. Executes (log l p) logged x y a b) t h) (executes_nothing next y y b refl)

pub line_out : {R : Type 0} (p : Mind) (line text : List ℕ) (next : R) (x y : JournalState) (a b : View) → text ≡ line → OutOfMemory (log text p) x y a b → OutOfMemory (say_then p line next) x y a b
line_out p line text next x y a b t h = out_front (log line p) (λ done. Ends next) x y a b (subst (λ l. OutOfMemory (log l p) x y a b) t h)

-- memory was wanting after the text
pub line_then_out : {R : Type 0} (p : Mind) (line text : List ℕ) (next : R) (x y : JournalState) (a b : View) → text ≡ line → Executes (log text p) logged x y a b → OutOfMemory (say_then p line next) x y a b
line_then_out p line text next x y a b t h =
    out_then (log line p) (λ done. Ends next) logged x y y a b b (subst (λ l. Executes (log l p) logged x y a b) t h) (out_anywhere (Ends next) y y b refl)

-- what holds of an answer, and what follows from it
pub ok_map : {T E : Type 0} (r : Result T E) (P Q : T → Type 0) → ((x : T) → P x → Q x) → IfOk r P → IfOk r Q
ok_map (Ok x) P Q f h = f x h
ok_map (Err e) P Q f h = tt

pub err_map : {T E : Type 0} (r : Result T E) (P Q : Type 0) → (P → Q) → OnErr r P → OnErr r Q
err_map (Ok x) P Q f h = tt
err_map (Err e) P Q f h = f h

-- what a choice is in each case
pub if_yes : {A : Type 0} (b : Bool) (p q : A) → b ≡ true → p ≡ (if b then p else q)
if_yes b p q e = ap (λ v. if v then p else q) (sym e)

pub if_no : {A : Type 0} (b : Bool) (p q : A) → b ≡ false → q ≡ (if b then p else q)
if_no b p q e = ap (λ v. if v then p else q) (sym e)

-- the same plan under another form
pub carried : {R A : Type 0} (p q : Plan R) (end : A → R) (answer : Result A Memory) (x y : JournalState) (a b : View) → p ≡ q → Carries p end answer x y a b → Carries q end answer x y a b
carried p q end answer x y a b e h = subst (λ plan. Carries plan end answer x y a b) e h
