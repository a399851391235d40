-- A call leaves room for what may still come.
use Rattle.std.proofs.Common.{◌≡◌, ◌≤◌, ◌<◌, ℕ, ◌+◌, ◌-◌, Bool, true, false, cond, List, length, Option, Some, None, sym, subst, arith, nat_eq}
use Rattle.pm_journal.specs.Appending.{append_step, append_heard, to_undo, taken_step}
use Rattle.pm_journal.specs.declared.appending.AppendEnd.TheVariants.{Undone as EndUndone}
use Rattle.pm_journal.specs.declared.appending.AppendStep.{AppendStep}
use Rattle.pm_journal.specs.declared.appending.AppendStep.TheVariants.{Look as AskLook, Create as AskCreate, Append as AskAppend, Sync as AskSync, Cut as AskCut, Remove as AskRemove, Finish as AppendFinish}
use Rattle.pm_journal.specs.declared.appending.AppendState.{AppendState}
use Rattle.pm_journal.specs.declared.appending.AppendState.TheVariants.{Looking, Creating, Writing, Cutting, Removing, Ended}
use Rattle.pm_append.specs.Machine.{Machine as Append, appending_heard}
use Rattle.pm_append.specs.Machine.{IsStepWithin}
use Rattle.pm_turns.specs.declared.writers.Will.{Will}
use Rattle.pm_turns.specs.declared.writers.Will.TheVariants.{Serve, Fail}
use Rattle.pm_turns.specs.Turning.{append_answer, append_place, at_step, part_of}
use Rattle.pm_turns.specs.Room.{came, left_at, left_in}

undo_left : (len old taken : ℕ) (made : Bool) → left_at len (to_undo made old taken) ≤ 0
undo_left len old taken true = omega arith
undo_left len old taken false =
    elim (nat_eq taken 0) as (λ b. left_at len (cond b (Ended EndUndone) (Cutting old taken)) ≤ 0) [ true ↦ omega arith | false ↦ omega arith ]

abbrev Less : ℕ → Bool → AppendState → Option (List ℕ) → Will → Type 0
Less len sync at mailbox will =
    came (append_answer (append_step len sync at) len mailbox will) + left_at len (append_heard at (append_answer (append_step len sync at) len mailbox will)) ≤ left_at len at

part_fits : (len taken n : ℕ) → taken < len → part_of (len - taken) n + (len - (taken + part_of (len - taken) n)) ≤ len - taken
part_fits len taken n h = omega arith

abbrev LessIn : ℕ → AppendStep → Bool → ℕ → ℕ → Option (List ℕ) → Will → Type 0
LessIn len step made old taken mailbox will =
    came (append_answer step len mailbox will) + left_at len (append_heard (Writing made old taken) (append_answer step len mailbox will)) ≤ len - taken

write_less : (len : ℕ) (made : Bool) (old taken : ℕ) (mailbox : Option (List ℕ)) (will : Will) → taken < len → LessIn len (AskAppend taken) made old taken mailbox will
write_less len made old taken mailbox Fail h = let u = undo_left len old taken made in omega (arith, u)
write_less len made old taken None (Serve n) h = let u = undo_left len old taken made in omega (arith, u)
write_less len made old taken (Some bytes) (Serve n) h = part_fits len taken n h

taken_less : (len : ℕ) (sync made : Bool) (old taken : ℕ) (mailbox : Option (List ℕ)) (will : Will) → LessIn len (taken_step sync) made old taken mailbox will
taken_less len true made old taken mailbox Fail = let u = undo_left len old taken made in omega (arith, u)
taken_less len true made old taken None (Serve n) = let u = undo_left len old taken made in omega (arith, u)
taken_less len true made old taken (Some bytes) (Serve n) = omega arith
taken_less len false made old taken mailbox Fail = let u = undo_left len old taken made in omega (arith, u)
taken_less len false made old taken None (Serve n) = let u = undo_left len old taken made in omega (arith, u)
taken_less len false made old taken (Some bytes) (Serve n) = let u = undo_left len old taken made in omega (arith, u)

less : (len : ℕ) (sync : Bool) (at : AppendState) (mailbox : Option (List ℕ)) (will : Will) → IsStepWithin len (append_step len sync at) → Less len sync at mailbox will
less len sync Looking None (Serve n) h = omega arith
less len sync Looking (Some bytes) (Serve n) h = omega arith
less len sync Looking mailbox Fail h = omega arith
less len sync Creating None (Serve n) h = omega arith
less len sync Creating (Some bytes) (Serve n) h = omega arith
less len sync Creating mailbox Fail h = omega arith
less len sync (Writing made old taken) mailbox will h =
    elim (nat_eq taken len) as (λ b. IsStepWithin len (cond b (taken_step sync) (AskAppend taken)) → LessIn len (cond b (taken_step sync) (AskAppend taken)) made old taken mailbox will) [
      | true ↦ λ w. taken_less len sync made old taken mailbox will
      | false ↦ λ w. write_less len made old taken mailbox will w
    ] h
less len sync (Cutting old taken) None (Serve n) h = omega arith
less len sync (Cutting old taken) (Some bytes) (Serve n) h = omega arith
less len sync (Cutting old taken) mailbox Fail h = omega arith
less len sync (Removing taken) None (Serve n) h = omega arith
less len sync (Removing taken) (Some bytes) (Serve n) h = omega arith
less len sync (Removing taken) mailbox Fail h = omega arith
less len sync (Ended end) mailbox (Serve n) h = omega arith
less len sync (Ended end) mailbox Fail h = omega arith

at_step_left : (piece : List ℕ) (a : Append) (step : AppendStep) → left_in piece (at_step a step) ≤ left_at (length piece) a.at
at_step_left piece a AskLook = omega arith
at_step_left piece a AskCreate = omega arith
at_step_left piece a (AskAppend from) = omega arith
at_step_left piece a AskSync = omega arith
at_step_left piece a (AskCut old) = omega arith
at_step_left piece a AskRemove = omega arith
at_step_left piece a (AppendFinish end) = omega arith

-- with the length that the core has
pub room_kept : (piece : List ℕ) (a : Append) (mailbox : Option (List ℕ)) (will : Will) (used used' : ℕ) → a.len ≡ length piece → IsStepWithin a.len (append_step a.len a.sync a.at)
    → used' ≤ used + came (append_answer (append_step a.len a.sync a.at) (length piece) mailbox will)
    → used' + left_in piece (append_place (appending_heard a (append_answer (append_step a.len a.sync a.at) (length piece) mailbox will))) ≤ used + left_at (length piece) a.at
room_kept piece a mailbox will used used' e h u =
    let b = appending_heard a (append_answer (append_step a.len a.sync a.at) (length piece) mailbox will) in
    let step_down : left_in piece (append_place b) ≤ left_at (length piece) b.at = at_step_left piece b (append_step b.len b.sync b.at) in
    let down : came (append_answer (append_step a.len a.sync a.at) (length piece) mailbox will) + left_at (length piece) b.at ≤ left_at (length piece) a.at =
    subst (λ n. IsStepWithin n (append_step n a.sync a.at) → came (append_answer (append_step n a.sync a.at) (length piece) mailbox will) + left_at (length piece) (append_heard a.at (append_answer (append_step n a.sync a.at) (length piece) mailbox will)) ≤ left_at (length piece) a.at)
    (sym e) (less (length piece) a.sync a.at mailbox will) h in
    omega (arith, step_down, down, u)
