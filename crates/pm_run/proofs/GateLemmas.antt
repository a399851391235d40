-- Recipes with a block, in plans.
use Rattle.std.proofs.Common.{◌≡◌, ◌≢◌, true, false, List, ℕ, Option, Some, None, Result, ◌∷◌, refl, sym, ap, ◌∙◌, subst}
use Rattle.std.specs.Prelude.{if◌then◌else◌, nat_lt, not, codes}
use Rattle.pm_bytes.specs.Path.{full_name}
use Rattle.pm_bytes.specs.declared.error.Memory.{Memory}
use Rattle.pm_recipe.specs.Tree.{Top}
use Rattle.pm_subst.specs.Commands.{commands_in}
use Rattle.pm_subst.specs.declared.kinds.Mode.TheVariants.{One}
use Rattle.pm_journal.specs.JournalState.{JournalState}
use Rattle.pm_journal.specs.Entries.{View}
use Rattle.pm_journal.specs.Held.{holds_name, held_by}
use Rattle.pm_journal.specs.Locking.{lock_act, lock_reply}
use Rattle.pm_journal.specs.LogText.{couldnt_lock_line, forcing_lock_line, no_lock_line}
use Rattle.pm_journal.specs.Noted.{NotesAct}
use Rattle.pm_journal.specs.declared.locking.LockRule.{LockRule}
use Rattle.pm_journal.specs.declared.locking.LockEnd.{LockEnd}
use Rattle.pm_journal.specs.declared.locking.LockEnd.TheVariants.{Held, Busy, Failed}
use Rattle.pm_journal.specs.Plan.{Plan, Ends, and_then, ask}
use Rattle.pm_journal.specs.Executed.{Executes, OutOfMemory, Carries}
use Rattle.pm_journal.proofs.FirstActs.{first_act, first_act_out}
use Rattle.pm_journal.proofs.WantsMemory.{executes_nothing}
use Rattle.pm_meaning.specs.Assigning.{value_in}
use Rattle.pm_meaning.specs.Blocks.{got_block_lock, lock_block, enter_with, enter_under, enter, enter_block}
use Rattle.pm_meaning.specs.Locks.{rule_of, with_lock}
use Rattle.pm_meaning.specs.Outputs.{Outputs, outputs_of}
use Rattle.pm_meaning.specs.Texts.{is_empty, is_file_text}
use Rattle.pm_meaning.specs.Minds.{Mind}
use Rattle.pm_meaning.specs.Turns.{Turn, GoesOn, Enters, Clones, say_then, refuse_name, is_too_long, skip_value}
use Rattle.pm_meaning.specs.Turning.{turn_of}
use Rattle.pm_meaning.proofs.Choices.{ok_map, err_map}
use Rattle.pm_meaning.proofs.Choices.{if_yes, if_no}
use Rattle.pm_meaning.specs.declared.process.End.{End}
use Rattle.pm_run.specs.Walk.{gate_turn}
use Rattle.pm_run.specs.declared.gates.Gate.{Gate}

-- a plan that is at its end
pub at_end : (plan : Plan Turn) (turn : Turn) (x : JournalState) (s : View) → Ends turn ≡ plan → Executes plan turn x x s s
at_end plan turn x s e = subst (λ p. Executes p turn x x s s) e (executes_nothing turn x x s refl)

pub copies : (top : Top) (p : Mind) → top.flags.copy ≡ true → Ends (Clones p) ≡ enter_block top p
copies top p e = if_yes top.flags.copy (Ends (Clones p)) (enter top.lock p) e

pub enters : (top : Top) (lock : Option (List ℕ)) (p : Mind) → top.flags.copy ≡ false → top.lock ≡ lock → enter lock p ≡ enter_block top p
enters top lock p e is = ap (λ l. enter l p) (sym is) ∙ if_no top.flags.copy (Ends (Clones p)) (enter top.lock p) e

-- what comes of a text for a lock that isn't empty, after its commands
abbrev pub locks_with : List ℕ → Outputs → Plan Turn
locks_with text = λ ran. enter_with text ran.outputs ran.mind

abbrev running : List ℕ → Mind → Plan Turn
running text p = and_then (outputs_of (commands_in One text) p) (locks_with text)

abbrev without_text : Mind → Plan Turn
without_text p = say_then p (no_lock_line (codes "{")) (Enters None p)

pub no_text : (text : List ℕ) (p : Mind) → is_empty text ≡ true → without_text p ≡ enter_under text p
no_text text p e = if_yes (is_empty text) (without_text p) (running text p) e

pub text_runs : (text : List ℕ) (p : Mind) → is_empty text ≡ false → running text p ≡ enter_under text p
text_runs text p e = if_no (is_empty text) (without_text p) (running text p) e

pub text_long : (text : List ℕ) (outputs : List (List ℕ)) (p : Mind) → is_too_long One text p.vars outputs ≡ true → skip_value One text outputs p ≡ enter_with text outputs p
text_long text outputs p l = if_yes (is_too_long One text p.vars outputs) (skip_value One text outputs p) (lock_block text (value_in p.vars outputs text) p) l

pub text_value : (text value : List ℕ) (outputs : List (List ℕ)) (p : Mind) → is_too_long One text p.vars outputs ≡ false → value ≡ value_in p.vars outputs text → lock_block text value p ≡ enter_with text outputs p
text_value text value outputs p l is =
    ap (λ v. lock_block text v p) is ∙ if_no (is_too_long One text p.vars outputs) (skip_value One text outputs p) (lock_block text (value_in p.vars outputs text) p) l

-- the lock by its value
abbrev asked : List ℕ → Mind → Plan Turn
asked name p = and_then (ask (lock_act name (rule_of p.vars))) (got_block_lock name p)

abbrev named : List ℕ → List ℕ → Mind → Plan Turn
named text value p = if holds_name p.locks (full_name p.base value) then refuse_name text p else asked (full_name p.base value) p

pub unusable : (text value : List ℕ) (p : Mind) → is_file_text value ≡ false → refuse_name text p ≡ lock_block text value p
unusable text value p e = ap (λ b. if not b then refuse_name text p else named text value p) (sym e)

pub is_held : (text value name : List ℕ) (p : Mind) → is_file_text value ≡ true → name ≡ full_name p.base value → holds_name p.locks name ≡ true → refuse_name text p ≡ lock_block text value p
is_held text value name p e is held =
    if_yes (holds_name p.locks (full_name p.base value)) (refuse_name text p) (asked (full_name p.base value) p) (ap (holds_name p.locks) (sym is) ∙ held)
    ∙ ap (λ b. if not b then refuse_name text p else named text value p) (sym e)

pub is_free : (text value name : List ℕ) (p : Mind) → is_file_text value ≡ true → name ≡ full_name p.base value → holds_name p.locks name ≡ false → asked name p ≡ lock_block text value p
is_free text value name p e is free =
    ap (λ n. asked n p) is
    ∙ (if_no (holds_name p.locks (full_name p.base value)) (refuse_name text p) (asked (full_name p.base value) p) (ap (holds_name p.locks) (sym is) ∙ free)
    ∙ ap (λ b. if not b then refuse_name text p else named text value p) (sym e))

-- the lock was asked for, and what is told after it comes
pub lock_then : {A : Type 0} (name noted : List ℕ) (rule : LockRule) (end : LockEnd) (p : Mind) (to : A → Turn) (answer : Result A Memory) (x w y z : JournalState) (a b c : View) → noted ≡ name → rule ≡ rule_of p.vars → w.entries ≡ x.entries
    → NotesAct (lock_act noted rule) (lock_reply end) w y a b → Carries (got_block_lock name p (lock_reply end)) to answer y z b c → Carries (asked name p) to answer x z a c
lock_then name noted rule end p to answer x w y z a b c same by e n h =
    let act = lock_act name (rule_of p.vars) in
    let taken : NotesAct act (lock_reply end) w y a b =
    subst (λ m. NotesAct (lock_act m (rule_of p.vars)) (lock_reply end) w y a b) same (subst (λ u. NotesAct (lock_act noted u) (lock_reply end) w y a b) by n) in (
      ok_map answer _ _ (λ v k. first_act act (got_block_lock name p) (lock_reply end) (to v) x w y z a b c e taken k) h.0,
      err_map answer _ _ (λ k. first_act_out act (got_block_lock name p) (lock_reply end) x w y z a b c e taken k) h.1,
    )

-- what is told of a lock that was got
pub got_held : (name shown : List ℕ) (end : LockEnd) (sleeps forced : ℕ) (p q : Mind) → end ≡ Held sleeps forced → shown ≡ name → q ≡ with_lock name p
    → (if nat_lt 0 forced then say_then q (forcing_lock_line shown) (Enters (Some name) q) else Ends (Enters (Some name) q)) ≡ got_block_lock name p (lock_reply end)
got_held name shown end sleeps forced p q is same with =
    ap (λ n. if nat_lt 0 forced then say_then q (forcing_lock_line n) (Enters (Some name) q) else Ends (Enters (Some name) q)) same
    ∙ (ap (λ m. if nat_lt 0 forced then say_then m (forcing_lock_line name) (Enters (Some name) m) else Ends (Enters (Some name) m)) with ∙ ap (λ u. got_block_lock name p (lock_reply u)) (sym is))

pub held_mind : (name noted : List ℕ) (rule : LockRule) (end : LockEnd) (sleeps forced : ℕ) (before held : List (List ℕ)) (p : Mind) → noted ≡ name → end ≡ Held sleeps forced → before ≡ p.locks
    → held ≡ held_by (lock_act noted rule) (lock_reply end) before → record p { locks = held } ≡ with_lock name p
held_mind name noted rule end sleeps forced before held p same got first e =
    ap (λ l. record p { locks = l }) (e ∙ ap (λ u. held_by (lock_act noted rule) (lock_reply u) before) got ∙ ap (λ n. n ∷ before) same ∙ ap (λ l. name ∷ l) first)

-- what is told of one that wasn't
missed : (name : List ℕ) (p : Mind) (end : LockEnd) → ((sleeps forced : ℕ) → end ≢ Held sleeps forced) → say_then p (couldnt_lock_line name) (GoesOn p) ≡ got_block_lock name p (lock_reply end)
missed name p (Held sleeps forced) none = absurd (none sleeps forced refl)
missed name p Busy none = refl
missed name p Failed none = refl

still_held : (name : List ℕ) (rule : LockRule) (names : List (List ℕ)) (end : LockEnd) → ((sleeps forced : ℕ) → end ≢ Held sleeps forced) → held_by (lock_act name rule) (lock_reply end) names ≡ names
still_held name rule names (Held sleeps forced) none = absurd (none sleeps forced refl)
still_held name rule names Busy none = refl
still_held name rule names Failed none = refl

pub got_none : (name shown noted : List ℕ) (rule : LockRule) (end : LockEnd) (before held : List (List ℕ)) (p : Mind) → ((sleeps forced : ℕ) → end ≢ Held sleeps forced) → shown ≡ name → before ≡ p.locks
    → held ≡ held_by (lock_act noted rule) (lock_reply end) before → say_then (record p { locks = held }) (couldnt_lock_line shown) (GoesOn (record p { locks = held })) ≡ got_block_lock name p (lock_reply end)
got_none name shown noted rule end before held p none same first e =
    ap (λ l. say_then (record p { locks = l }) (couldnt_lock_line shown) (GoesOn (record p { locks = l }))) (e ∙ still_held noted rule before end none ∙ first)
    ∙ (ap (λ n. say_then p (couldnt_lock_line n) (GoesOn p)) same ∙ missed name p end none)

-- a function that answers an end, as a gate
pub gate_of_end : (plan whole : Plan Turn) (end : Option End) (gate : Gate) (q : Mind) (x y : JournalState) (a b : View) → plan ≡ whole → ((p : Mind) → turn_of end p ≡ gate_turn gate p)
    → Executes plan (turn_of end q) x y a b → Executes whole (gate_turn gate q) x y a b
gate_of_end plan whole end gate q x y a b e by h = subst (λ r. Executes r (gate_turn gate q) x y a b) e (subst (λ t. Executes plan t x y a b) (by q) h)

pub gate_out : (plan whole : Plan Turn) (x y : JournalState) (a b : View) → plan ≡ whole → OutOfMemory plan x y a b → OutOfMemory whole x y a b
gate_out plan whole x y a b e h = subst (λ r. OutOfMemory r x y a b) e h

pub gate_in : (plan whole : Plan Turn) (turn : Turn) (x y : JournalState) (a b : View) → plan ≡ whole → Executes plan turn x y a b → Executes whole turn x y a b
gate_in plan whole turn x y a b e h = subst (λ r. Executes r turn x y a b) e h
