-- What a process does at its end, in plans.
use Rattle.std.proofs.Common.{◌≡◌, ◌≢◌, Bool, true, false, List, ℕ, [], Some, None, Option, refl, sym, ap, ◌∙◌, subst}
use Rattle.std.specs.Prelude.{◌&&◌, codes, decimal, if◌then◌else◌}
use Rattle.pm_bytes.specs.Number.{count_of}
use Rattle.pm_host.specs.declared.command.Command.{Command}
use Rattle.pm_message.specs.Split.{whole_of}
use Rattle.pm_vars.specs.Variables.{value_of, with_value}
use Rattle.pm_vars.specs.Table.{Table}
use Rattle.pm_journal.specs.JournalState.{JournalState}
use Rattle.pm_journal.specs.Entries.{View}
use Rattle.pm_journal.specs.Outcomes.{run_end}
use Rattle.pm_journal.specs.Plan.{Plan, Ends, ask}
use Rattle.pm_journal.specs.Executed.{Executes, OutOfMemory}
use Rattle.pm_journal.specs.Walking.{Next, Go, Reaches}
use Rattle.pm_journal.specs.declared.acts.Act.TheVariants.{Run}
use Rattle.pm_journal.specs.declared.acts.Reply.{Reply}
use Rattle.pm_journal.specs.declared.children.RunEnd.{RunEnd}
use Rattle.pm_meaning.specs.Abstracts.{abstract_of, logs_last}
use Rattle.pm_meaning.specs.Changes.{is_given, with_variable}
use Rattle.pm_meaning.specs.GlobalLock.{give_named}
use Rattle.pm_meaning.specs.Locks.{value_or}
use Rattle.pm_meaning.specs.Logging.{log, logged}
use Rattle.pm_meaning.specs.Minds.{Mind}
use Rattle.pm_meaning.specs.Outputs.{tell_run, run_fault, Read}
use Rattle.pm_meaning.specs.Programs.{code_of, with_code, with_exit_code}
use Rattle.pm_meaning.specs.Turns.{say_then}
use Rattle.pm_meaning.specs.declared.process.End.{End}
use Rattle.pm_meaning.specs.declared.process.End.TheVariants.{Delivered, FellOff, NoRc, HostOff}
use Rattle.pm_meaning.specs.Ends.{is_delivered, tell_delivery, is_trapped, Trapped, trapped_with, run_trap, trap_by, trap_line, trap}
use Rattle.pm_meaning.specs.Running.{State, Event, Over, Trapping, Unlocking, Closing, ending_of, step}
use Rattle.pm_meaning.specs.Status.{is_code, code_in, is_set, is_there_empty, base_status, chosen_status, exit_status, with_exit_status}
use Rattle.pm_meaning.specs.declared.ending.Ending.{Ending}
use Rattle.pm_journal.proofs.ActPlans.{executes_then}
use Rattle.pm_journal.proofs.WantsMemory.{executes_nothing, out_front, out_then}
use Rattle.pm_journal.proofs.WalkJoin.{reaches_once, reaches_then}
use Rattle.pm_run.specs.RunningOut.{MayRunOut, RunsOut, HinderedSince}
use Rattle.pm_run.proofs.RunOutLemmas.{ran_out_at_once, ran_out_then}
use Rattle.pm_meaning.specs.Ready.{told}
use Rattle.pm_meaning.proofs.Choices.{choose_else, line_told}
use Rattle.pm_meaning.proofs.Choices.{if_yes, if_no}
use Rattle.pm_meaning.proofs.OutputLemmas.{told_then}
use Rattle.pm_meaning.proofs.SkipLemmas.{set_copy}
use Rattle.pm_run.specs.Codes.{code_written}

abbrev Onward : Type 0
Onward = Next State Event

-- the abstract isn't wanted, or it is this text
pub untold : (end : End) (p : Mind) (x : JournalState) (s : View) → (is_delivered end && logs_last p) ≡ false → Executes (tell_delivery end p) logged x x s s
untold end p x s e = choose_else (is_delivered end && logs_last p) (log (abstract_of p) p) (Ends logged) logged x x s s e (executes_nothing logged x x s refl)

pub abstract_told : (end : End) (text : List ℕ) (p : Mind) → (is_delivered end && logs_last p) ≡ true → text ≡ abstract_of p → log text p ≡ tell_delivery end p
abstract_told end text p e is = ap (λ t. log t p) is ∙ if_yes (is_delivered end && logs_last p) (log (abstract_of p) p) (Ends logged) e

-- the abstract was told, and memory may have been wanting in it
pub over_traps : (end : End) (p : Mind) (x y : JournalState) (a b : View) → Executes (tell_delivery end p) logged x y a b → Reaches {X = Event} step (Over end p) (Trapping end p) x y a b
over_traps end p x y a b h =
    let next : Onward = Go (Trapping end p) in
    reaches_once step (Over end p) (Trapping end p) x y a b (executes_then (tell_delivery end p) (λ done. Ends next) logged next x y y a b b h (executes_nothing next y y b refl))

pub over_wants : (end : End) (p : Mind) (x y : JournalState) (a b : View) → OutOfMemory (tell_delivery end p) x y a b → (is_delivered end && logs_last p) ≡ true → RunsOut {X = Event} step MayRunOut (Over end p) x y a b
over_wants end p x y a b h told =
    let next : Onward = Go (Trapping end p) in
    ran_out_at_once step MayRunOut (Over end p) x y a b (out_front (tell_delivery end p) (λ done. Ends next) x y a b h) (λ more e. told)

-- what comes after TRAP's program
abbrev after_trap : End → Trapped → Plan Onward
after_trap end = λ t. Ends (Go (Unlocking (ending_of end t.code t.mind) t.mind))

pub trap_unlocks : (s : State) (end : End) (code : ℕ) (p q : Mind) (x y z : JournalState) (a b c : View) → Reaches {X = Event} step s (Trapping end p) x y a b → Executes (trap end p) (trapped_with code q) y z b c
    → Reaches {X = Event} step s (Unlocking (ending_of end code q) q) x z a c
trap_unlocks s end code p q x y z a b c h k =
    let next : Onward = Go (Unlocking (ending_of end code q) q) in
    reaches_then step s (Trapping end p) (Unlocking (ending_of end code q) q) x y z a b c h
    (executes_then (trap end p) (after_trap end) (trapped_with code q) next y z z b c c k (executes_nothing next z z c refl))

pub trap_wants : (s : State) (end : End) (p : Mind) (x y z : JournalState) (a b c : View) → Reaches {X = Event} step s (Trapping end p) x y a b → OutOfMemory (trap end p) y z b c → is_trapped end p ≡ true → RunsOut {X = Event} step MayRunOut s x z a c
trap_wants s end p x y z a b c h k set = ran_out_then step MayRunOut s (Trapping end p) x y z a b c h (out_front (trap end p) (after_trap end) y z b c k) (λ more e. set)

-- LOCKFILE's lock was given back
pub unlock_closes : (s : State) (ending : Ending) (p q : Mind) (x y z : JournalState) (a b c : View) → Reaches {X = Event} step s (Unlocking ending p) x y a b → Executes (give_named p.global p) q y z b c
    → Reaches {X = Event} step s (Closing ending q) x z a c
unlock_closes s ending p q x y z a b c h k =
    let next : Onward = Go (Closing ending q) in
    reaches_then step s (Unlocking ending p) (Closing ending q) x y z a b c h
    (executes_then (give_named p.global p) (λ r. Ends (Go (Closing ending r))) q next y z z b c c k (executes_nothing next z z c refl))

pub unlock_wants : (s : State) (ending : Ending) (p : Mind) (x y z : JournalState) (a b c : View) → Reaches {X = Event} step s (Unlocking ending p) x y a b → OutOfMemory (give_named p.global p) y z b c
    → HinderedSince y z → RunsOut {X = Event} step MayRunOut s x z a c
unlock_wants s ending p x y z a b c h k stuck =
    let next : Mind → Plan Onward = λ r. Ends (Go (Closing ending r)) in
    ran_out_then step MayRunOut s (Unlocking ending p) x y z a b c h (out_front (give_named p.global p) next y z b c k) stuck

-- the same under the exit status that the ending has
pub closes : (s : State) (end : End) (code status : ℕ) (p q : Mind) (x y z : JournalState) (a b c : View) → status ≡ exit_status end code p → Reaches {X = Event} step s (Unlocking (ending_of end code p) p) x y a b
    → Executes (give_named p.global p) q y z b c → Reaches {X = Event} step s (Closing (record { end = end; status = status }) q) x z a c
closes s end code status p q x y z a b c e h k =
    subst (λ n. Reaches {X = Event} step s (Closing (record { end = end; status = n }) q) x z a c) (sym e) (unlock_closes s (ending_of end code p) p q x y z a b c h k)

-- TRAP's program runs, or not
pub not_trapped : (end : End) (p : Mind) (x : JournalState) (s : View) → is_trapped end p ≡ false → Executes (trap end p) (trapped_with 127 p) x x s s
not_trapped end p x s e =
    choose_else (is_trapped end p) (trap_line (value_or [] (codes "TRAP") p.vars) (with_exit_status end p)) (Ends (trapped_with 127 p)) (trapped_with 127 p) x x s s e (executes_nothing (trapped_with 127 p) x x s refl)

pub trap_runs : (end : End) (text : List ℕ) (p q : Mind) → is_trapped end p ≡ true → text ≡ value_or [] (codes "TRAP") p.vars → q ≡ with_exit_status end p → trap_line text q ≡ trap end p
trap_runs end text p q e is with =
    ap (λ t. trap_line t q) is
    ∙ (ap (trap_line (value_or [] (codes "TRAP") p.vars)) with
    ∙ if_yes (is_trapped end p) (trap_line (value_or [] (codes "TRAP") p.vars) (with_exit_status end p)) (Ends (trapped_with 127 p)) e)

-- what comes after the line of TRAP's program
abbrev pub by_read : List ℕ → Read → Plan Trapped
by_read text = λ read. trap_by read.line text read.mind

-- what comes after its run
abbrev pub after_run : List ℕ → Mind → Reply → Plan Trapped
after_run text p reply = tell_run (run_end reply) text (with_code reply p) (trapped_with (code_of (run_end reply)) (with_code reply p))

-- the same by how the run ended
abbrev by_end : List ℕ → Mind → RunEnd → Plan Trapped
by_end text p end = tell_run end text (with_exit_code (code_of end) p) (trapped_with (code_of end) (with_exit_code (code_of end) p))

module _ (text : List ℕ) (end : RunEnd) (p q : Mind) (reply : Reply) where
  -- the end is that of the reply
  abbrev IsOf : Type 0
  IsOf = (end ≡ run_end reply) × (q ≡ with_exit_code (code_of end) p)

  behind_is : IsOf → tell_run end text q (trapped_with (code_of end) q) ≡ after_run text p reply
  behind_is is = ap (λ m. tell_run end text m (trapped_with (code_of end) m)) is.1 ∙ ap (by_end text p) is.0

  pub told_after : (is : IsOf) (code : ℕ) (x y : JournalState) (a b : View) → code ≡ code_of end → Executes (tell_run end text q told) told x y a b → Executes (after_run text p reply) (trapped_with code q) x y a b
  told_after is code x y a b same h =
      let next = trapped_with (code_of end) q in
      subst (λ plan. Executes plan (trapped_with code q) x y a b) (behind_is is)
      (subst (λ n. Executes (tell_run end text q next) (trapped_with n q) x y a b) (sym same)
      (subst (λ plan. Executes plan next x y a b) (told_then (run_fault end text) q next)
      (executes_then (tell_run end text q told) (λ _. Ends next) told next x y y a b b h (executes_nothing next y y b refl))))

  pub untold_after : (is : IsOf) (x y : JournalState) (a b : View) → OutOfMemory (tell_run end text q told) x y a b → OutOfMemory (after_run text p reply) x y a b
  untold_after is x y a b h =
      let next = trapped_with (code_of end) q in
      subst (λ plan. OutOfMemory plan x y a b) (behind_is is)
      (subst (λ plan. OutOfMemory plan x y a b) (told_then (run_fault end text) q next) (out_front (tell_run end text q told) (λ _. Ends next) x y a b h))

-- the program was run, and what comes after it
module _ (command : Command) (input text : List ℕ) (p : Mind) where
  pub trap_unrun : (x y : JournalState) (a b : View) → input ≡ whole_of p.message → OutOfMemory (ask (Run command input false)) x y a b → OutOfMemory (run_trap command text p) x y a b
  trap_unrun x y a b e h =
      out_front (ask (Run command (whole_of p.message) false)) (after_run text p) x y a b (subst (λ i. OutOfMemory (ask (Run command i false)) x y a b) e h)

  module _ (reply : Reply) where
    pub trap_then : (code : ℕ) (q : Mind) (x y z : JournalState) (a b c : View) → input ≡ whole_of p.message → Executes (ask (Run command input false)) reply x y a b
        → Executes (after_run text p reply) (trapped_with code q) y z b c → Executes (run_trap command text p) (trapped_with code q) x z a c
    trap_then code q x y z a b c e h k =
        executes_then (ask (Run command (whole_of p.message) false)) (after_run text p) reply (trapped_with code q) x y z a b c (subst (λ i. Executes (ask (Run command i false)) reply x y a b) e h) k

    pub trap_then_out : (x y z : JournalState) (a b c : View) → input ≡ whole_of p.message → Executes (ask (Run command input false)) reply x y a b → OutOfMemory (after_run text p reply) y z b c
        → OutOfMemory (run_trap command text p) x z a c
    trap_then_out x y z a b c e h k =
        out_then (ask (Run command (whole_of p.message) false)) (after_run text p) reply x y z a b c (subst (λ i. Executes (ask (Run command i false)) reply x y a b) e h) k

-- a line was told, and the process changed
pub long_told : (line shown : List ℕ) (p q r : Mind) (x y : JournalState) (a b : View) → shown ≡ line → r ≡ q → Executes (log shown p) logged x y a b → Executes (say_then p line (trapped_with 127 q)) (trapped_with 127 r) x y a b
long_told line shown p q r x y a b is same h =
    subst (λ m. Executes (say_then p line (trapped_with 127 q)) (trapped_with 127 m) x y a b) (sym same) (line_told p line shown (trapped_with 127 q) x y a b is h)

-- the number that EXITCODE writes
written_by : (b : Bool) (count : Option ℕ) (code other : ℕ) → Some code ≡ (if b then count else None) → code ≡ (if b then code_in count else other)
written_by true (Some n) code other e = cc
written_by true None code other e = absurd (cc)
written_by false count code other e = absurd (cc)

-- what comes without EXITCODE's number
abbrev otherwise : End → ℕ → Mind → ℕ
otherwise end trapped p = if is_there_empty (value_of (codes "EXITCODE") p.vars.variables) && is_given (codes "TRAP") p then trapped else base_status end p

abbrev exit_value : Mind → List ℕ
exit_value p = value_or [] (codes "EXITCODE") p.vars

pub status_written : (end : End) (trapped code : ℕ) (p : Mind) → Some code ≡ code_written (exit_value p) → code ≡ chosen_status end trapped p
status_written end trapped code p e = written_by (is_code (count_of (exit_value p))) (count_of (exit_value p)) code (otherwise end trapped p) e

-- any end but one has the chosen status
pub has_status : (end : End) (trapped : ℕ) (p : Mind) → end ≢ NoRc → chosen_status end trapped p ≡ exit_status end trapped p
has_status Delivered trapped p other = refl
has_status FellOff trapped p other = refl
has_status NoRc trapped p other = absurd (other refl)
has_status HostOff trapped p other = refl

-- EXITCODE was set, or got the status so far
pub was_set : (end : End) (p : Mind) → is_set (value_of (codes "EXITCODE") p.vars.variables) ≡ true → p ≡ with_exit_status end p
was_set end p e = if_yes (is_set (value_of (codes "EXITCODE") p.vars.variables)) p (with_variable (codes "EXITCODE") (decimal (base_status end p)) p) e

pub now_set : (end : End) (number : ℕ) (value : List ℕ) (p : Mind) (vars : Table) → is_set (value_of (codes "EXITCODE") p.vars.variables) ≡ false → number ≡ base_status end p → value ≡ decimal number
    → vars ≡ record p.vars { variables = with_value (codes "EXITCODE") value p.vars.variables } → record p { vars = vars } ≡ with_exit_status end p
now_set end number value p vars e n is with =
    set_copy (codes "EXITCODE") (decimal (base_status end p)) value p vars (is ∙ ap (λ m. decimal m) n) with
    ∙ if_no (is_set (value_of (codes "EXITCODE") p.vars.variables)) p (with_variable (codes "EXITCODE") (decimal (base_status end p)) p) e
