-- Blocks that are left.
use Rattle.std.proofs.Common.{◌≡◌, ◌<◌, ◌≤◌, ◌∙◌, true, false, List, ℕ, [], ◌∷◌, ◌++◌, length, Option, Some, None, refl, sym, ap, subst, arith}
use Rattle.pm_journal.specs.JournalState.{JournalState}
use Rattle.pm_journal.specs.Entries.{View}
use Rattle.pm_journal.specs.Held.{holds_name}
use Rattle.pm_journal.specs.LogText.{couldnt_unlock_line}
use Rattle.pm_journal.specs.Noted.{NotesAct}
use Rattle.pm_journal.specs.declared.acts.Act.TheVariants.{Unlock}
use Rattle.pm_journal.specs.declared.acts.Reply.{Reply}
use Rattle.pm_journal.specs.Plan.{Plan, Ends, and_then, ask}
use Rattle.pm_journal.specs.Executed.{Executes, OutOfMemory}
use Rattle.pm_journal.specs.Walking.{Next, Go, Reaches}
use Rattle.pm_journal.proofs.ActPlans.{executes_then}
use Rattle.pm_journal.proofs.FirstActs.{first_act, first_act_out}
use Rattle.pm_journal.proofs.WalkJoin.{reaches_then}
use Rattle.pm_journal.proofs.WantsMemory.{executes_nothing, out_front, out_anywhere}
use Rattle.pm_meaning.specs.Blocks.{without_lock, give_block_lock, give_maybe}
use Rattle.pm_meaning.specs.GlobalLock.{after_giving}
use Rattle.pm_meaning.specs.Locks.{is_fault}
use Rattle.pm_meaning.specs.Logging.{log, logged}
use Rattle.pm_meaning.specs.Minds.{Mind}
use Rattle.pm_meaning.specs.Turns.{say_then}
use Rattle.pm_meaning.specs.Running.{State, Item, Event, Running, LeavingFile, Leaving, Over, left_by, step}
use Rattle.pm_meaning.specs.declared.process.End.{End}
use Rattle.pm_meaning.specs.declared.process.End.TheVariants.{Delivered, FellOff, NoRc, HostOff}
use Rattle.pm_meaning.proofs.Choices.{choose_then, then_out, line_told, line_out}
use Rattle.pm_meaning.proofs.Choices.{if_yes, if_no}
use Rattle.pm_run.specs.RunningOut.{MayRunOut, RunsOut, HinderedSince}
use Rattle.pm_run.proofs.RunOutLemmas.{ran_out_then}
use Rattle.pm_run.specs.Frames.{block_locks, outer_locks, left_outside, left_in}
use Rattle.pm_run.specs.declared.frames.Open.{Open}
use Rattle.pm_run.specs.declared.frames.Frames.{Frames}
use Rattle.pm_run.specs.declared.frames.Waiting.{Waiting}

abbrev Onward : Type 0
Onward = Next State Event

module _ (s : State) (locks : List (Option (List ℕ))) (end : End) (p : Mind) (x y : JournalState) (a b : View) (h : Reaches {X = Event} step s (Leaving locks end p) x y a b) where
  at_block : (lock : Option (List ℕ)) (rest : List (Option (List ℕ))) → locks ≡ lock ∷ rest → Reaches {X = Event} step s (Leaving (lock ∷ rest) end p) x y a b
  at_block lock rest e = subst (λ l. Reaches {X = Event} step s (Leaving l end p) x y a b) e h

  -- one block was left
  pub leave_on : (lock : Option (List ℕ)) (rest : List (Option (List ℕ))) (q : Mind) (z : JournalState) (c : View) → locks ≡ lock ∷ rest → Executes (give_maybe lock p) q y z b c
      → Reaches {X = Event} step s (Leaving rest end q) x z a c
  leave_on lock rest q z c e k =
      let go : Mind → Plan Onward = λ r. Ends (Go (Leaving rest end r)) in
      reaches_then step s (Leaving (lock ∷ rest) end p) (Leaving rest end q) x y z a b c (at_block lock rest e)
      (executes_then (give_maybe lock p) go q (Go (Leaving rest end q)) y z z b c c k (executes_nothing (Go (Leaving rest end q)) z z c refl))

  pub leave_wants : (lock : Option (List ℕ)) (rest : List (Option (List ℕ))) (z : JournalState) (c : View) → locks ≡ lock ∷ rest → OutOfMemory (give_maybe lock p) y z b c → HinderedSince y z → RunsOut {X = Event} step MayRunOut s x z a c
  leave_wants lock rest z c e k stuck =
      let go : Mind → Plan Onward = λ r. Ends (Go (Leaving rest end r)) in
      ran_out_then step MayRunOut s (Leaving (lock ∷ rest) end p) x y z a b c (at_block lock rest e) (out_front (give_maybe lock p) go y z b c k) stuck

  -- the blocks of the next rcfile come
  pub leave_further : (rest : List (Option (List ℕ))) → rest ≡ locks → Reaches {X = Event} step s (Leaving rest end p) x y a b
  leave_further rest e = subst (λ l. Reaches {X = Event} step s (Leaving l end p) x y a b) (sym e) h

  -- all blocks were left
  pub leave_over : locks ≡ [] → Reaches {X = Event} step s (left_by end p) x y a b
  leave_over e =
      reaches_then step s (Leaving [] end p) (left_by end p) x y y a b b (subst (λ l. Reaches {X = Event} step s (Leaving l end p) x y a b) e h)
      (executes_nothing (Go (left_by end p)) y y b refl)

-- the same of the blocks of one rcfile, after which these items are left
module _ (s : State) (locks : List (Option (List ℕ))) (items : List Item) (p : Mind) (x y : JournalState) (a b : View) (h : Reaches {X = Event} step s (LeavingFile locks items p) x y a b) where
  in_block : (lock : Option (List ℕ)) (rest : List (Option (List ℕ))) → locks ≡ lock ∷ rest → Reaches {X = Event} step s (LeavingFile (lock ∷ rest) items p) x y a b
  in_block lock rest e = subst (λ l. Reaches {X = Event} step s (LeavingFile l items p) x y a b) e h

  pub file_on : (lock : Option (List ℕ)) (rest : List (Option (List ℕ))) (q : Mind) (z : JournalState) (c : View) → locks ≡ lock ∷ rest → Executes (give_maybe lock p) q y z b c
      → Reaches {X = Event} step s (LeavingFile rest items q) x z a c
  file_on lock rest q z c e k =
      let go : Mind → Plan Onward = λ r. Ends (Go (LeavingFile rest items r)) in
      reaches_then step s (LeavingFile (lock ∷ rest) items p) (LeavingFile rest items q) x y z a b c (in_block lock rest e)
      (executes_then (give_maybe lock p) go q (Go (LeavingFile rest items q)) y z z b c c k (executes_nothing (Go (LeavingFile rest items q)) z z c refl))

  pub file_wants : (lock : Option (List ℕ)) (rest : List (Option (List ℕ))) (z : JournalState) (c : View) → locks ≡ lock ∷ rest → OutOfMemory (give_maybe lock p) y z b c → RunsOut {X = Event} step MayRunOut s x z a c
  file_wants lock rest z c e k =
      let go : Mind → Plan Onward = λ r. Ends (Go (LeavingFile rest items r)) in
      ran_out_then step MayRunOut s (LeavingFile (lock ∷ rest) items p) x y z a b c (in_block lock rest e) (out_front (give_maybe lock p) go y z b c k) (λ more e. tt)

  pub file_over : locks ≡ [] → Reaches {X = Event} step s (Running items p) x y a b
  file_over e =
      reaches_then step s (LeavingFile [] items p) (Running items p) x y y a b b (subst (λ l. Reaches {X = Event} step s (LeavingFile l items p) x y a b) e h)
      (executes_nothing (Go (Running items p)) y y b refl)

-- the locks of a frame whose first block is left
pub frame_locks : (blocks rest : List Open) (block : Open) (outer : List (Option (List ℕ))) → blocks ≡ block ∷ rest → block_locks blocks ++ outer ≡ block.lock ∷ block_locks rest ++ outer
frame_locks blocks rest block outer e = ap (λ l. block_locks l ++ outer) e

pub blocks_fewer : (f g : Frames) (block : Open) → f.blocks.items ≡ block ∷ g.blocks.items → g.code ≡ f.code → g.place ≡ f.place → g.outer ≡ f.outer → left_in g < left_in f
blocks_fewer f g block b c k o = omega (arith, ap length b, ap (λ q. length q.steps.items) c, k, ap (λ q. left_outside q.items) o)

-- no more is left than before
pub blocks_left : (first f g : Frames) (block : Open) → f.blocks.items ≡ block ∷ g.blocks.items → g.code ≡ f.code → g.place ≡ f.place → g.outer ≡ f.outer → left_in f ≤ left_in first → left_in g ≤ left_in first
blocks_left first f g block b c k o h =
    let fewer = blocks_fewer f g block b c k o in
    omega (arith, fewer, h)

pub none_left : (first f g k : Frames) → f.blocks.items ≡ g.blocks.items → g.code ≡ f.code → g.place ≡ f.place → g.outer ≡ f.outer → left_in k ≤ left_in g → left_in f ≤ left_in first → left_in k ≤ left_in first
none_left first f g k b c e o less h = omega (arith, ap length b, ap (λ q. length q.steps.items) c, e, ap (λ q. left_outside q.items) o, less, h)

-- the rcfile that waits first is left next
pub next_locks : (blocks : List Open) (outer rest : List Waiting) (w : Waiting) → blocks ≡ [] → outer ≡ w ∷ rest → block_locks w.blocks.items ++ outer_locks rest ≡ block_locks blocks ++ outer_locks outer
next_locks blocks outer rest w none e = sym (ap outer_locks e) ∙ ap (λ l. block_locks l ++ outer_locks outer) (sym none)

pub no_locks : (blocks : List Open) (outer : List Waiting) → blocks ≡ [] → outer ≡ [] → block_locks blocks ++ outer_locks outer ≡ []
no_locks blocks outer none e = ap (λ l. block_locks l ++ outer_locks outer) none ∙ ap outer_locks e

-- there is no lock
pub none_given : (lock : Option (List ℕ)) (p : Mind) (x : JournalState) (s : View) → lock ≡ None → Executes (give_maybe lock p) p x x s s
none_given lock p x s e = subst (λ l. Executes (give_maybe l p) p x x s s) (sym e) (executes_nothing p x x s refl)

pub named_given : (lock : Option (List ℕ)) (name : List ℕ) (p : Mind) → lock ≡ Some name → give_block_lock name p ≡ give_maybe lock p
named_given lock name p e = ap (λ l. give_maybe l p) (sym e)

-- the lock isn't held, or it is
pub free_given : (name : List ℕ) (p : Mind) (x : JournalState) (s : View) → holds_name p.locks name ≡ false → Executes (give_block_lock name p) p x x s s
free_given name p x s e =
    subst (λ plan. Executes plan p x x s s) (if_no (holds_name p.locks name) (and_then (ask (Unlock name)) (after_giving name (without_lock name p))) (Ends p) e) (executes_nothing p x x s refl)

pub held_given : (name : List ℕ) (p : Mind) → holds_name p.locks name ≡ true → and_then (ask (Unlock name)) (after_giving name (without_lock name p)) ≡ give_block_lock name p
held_given name p e = if_yes (holds_name p.locks name) (and_then (ask (Unlock name)) (after_giving name (without_lock name p))) (Ends p) e

-- the removal of the lock file failed, and this was told
pub stuck_told : (name line : List ℕ) (p q : Mind) (reply : Reply) (x y z : JournalState) (a b c : View) → NotesAct (Unlock name) reply x y a b → is_fault reply ≡ true → line ≡ couldnt_unlock_line name → q ≡ without_lock name p
    → Executes (log line q) logged y z b c → Executes (and_then (ask (Unlock name)) (after_giving name (without_lock name p))) q x z a c
stuck_told name line p q reply x y z a b c n e same is says =
    let r = without_lock name p in
    subst (λ m. Executes (and_then (ask (Unlock name)) (after_giving name r)) m x z a c) (sym is)
    (first_act (Unlock name) (after_giving name r) reply r x x y z a b c refl n
    (choose_then (is_fault reply) (say_then r (couldnt_unlock_line name) r) (Ends r) r y z b c e
    (line_told r (couldnt_unlock_line name) line r y z b c same (subst (λ m. Executes (log line m) logged y z b c) is says))))

pub stuck_out : (name line : List ℕ) (p q : Mind) (reply : Reply) (x y z : JournalState) (a b c : View) → NotesAct (Unlock name) reply x y a b → is_fault reply ≡ true → line ≡ couldnt_unlock_line name → q ≡ without_lock name p
    → OutOfMemory (log line q) y z b c → OutOfMemory (and_then (ask (Unlock name)) (after_giving name (without_lock name p))) x z a c
stuck_out name line p q reply x y z a b c n e same is out =
    let r = without_lock name p in
    first_act_out (Unlock name) (after_giving name r) reply x x y z a b c refl n
    (then_out (is_fault reply) (say_then r (couldnt_unlock_line name) r) (Ends r) y z b c e
    (line_out r (couldnt_unlock_line name) line r y z b c same (subst (λ m. OutOfMemory (log line m) y z b c) is out)))

pub unlocked_out : (name : List ℕ) (p : Mind) (reply : Reply) (x y : JournalState) (a b : View) → NotesAct (Unlock name) reply x y a b → OutOfMemory (and_then (ask (Unlock name)) (after_giving name (without_lock name p))) x y a b
unlocked_out name p reply x y a b n =
    let r = without_lock name p in
    first_act_out (Unlock name) (after_giving name r) reply x x y y a b b refl n (out_anywhere (after_giving name r reply) y y b refl)

-- after its blocks a process is over, unless it isn't on its host
over_by : (end : End) (p : Mind) → (end ≡ HostOff → ⊥) → left_by end p ≡ Over end p
over_by Delivered p h = refl
over_by FellOff p h = refl
over_by NoRc p h = refl
over_by HostOff p h = absurd (h refl)

pub halts_over : (s : State) (end : End) (q : Mind) (x y : JournalState) (a b : View) → (end ≡ HostOff → ⊥) → Reaches {X = Event} step s (left_by end q) x y a b → Reaches {X = Event} step s (Over end q) x y a b
halts_over s end q x y a b h k = subst (λ t. Reaches {X = Event} step s t x y a b) (over_by end q h) k

pub halts_off : (s : State) (end : End) (q : Mind) (x y : JournalState) (a b : View) → end ≡ HostOff → Reaches {X = Event} step s (left_by end q) x y a b → Reaches {X = Event} step s (left_by HostOff q) x y a b
halts_off s end q x y a b is h = subst (λ e. Reaches {X = Event} step s (left_by e q) x y a b) is h
