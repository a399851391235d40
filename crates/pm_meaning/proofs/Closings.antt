-- What a process does after its delivery: it gives locks back, logs lines, and runs programs.
use Rattle.std.proofs.Common.{◌≡◌, ℕ, Bool, true, false, ◌&&◌, List, [], ◌∷◌, ◌++◌, Option, Some, None, sym, subst}
use Rattle.std.specs.Prelude.{if◌then◌else◌, codes}
use Rattle.pm_host.specs.declared.command.Command.{Command}
use Rattle.pm_message.specs.Split.{whole_of}
use Rattle.pm_subst.specs.Commands.{commands_in}
use Rattle.pm_subst.specs.declared.kinds.Mode.TheVariants.{Many}
use Rattle.pm_journal.specs.Held.{holds_name}
use Rattle.pm_journal.specs.LogText.{couldnt_unlock_line, unusable_name_line, value_too_long_line}
use Rattle.pm_journal.specs.Outcomes.{run_end, output_in}
use Rattle.pm_journal.specs.Plan.{Plan, Ends, and_then, ask, Plays}
use Rattle.pm_journal.specs.declared.acts.Act.{Act}
use Rattle.pm_journal.specs.declared.acts.Act.TheVariants.{Unlock, Run, SayErr, SayFile}
use Rattle.pm_journal.specs.declared.acts.Entry.{Entry}
use Rattle.pm_journal.specs.declared.acts.Reply.{Reply}
use Rattle.pm_journal.proofs.WalkJoin.{parts_of}
use Rattle.pm_meaning.specs.Abstracts.{abstract_of, logs_last}
use Rattle.pm_meaning.specs.Blocks.{without_lock, give_maybe}
use Rattle.pm_meaning.specs.Changes.{overflowed}
use Rattle.pm_meaning.specs.GlobalLock.{without_global, after_giving, give_named}
use Rattle.pm_meaning.specs.Locks.{is_fault, value_or}
use Rattle.pm_meaning.specs.Logging.{log, logged}
use Rattle.pm_meaning.specs.Minds.{Mind}
use Rattle.pm_meaning.specs.Outputs.{Outputs, Read, output_with, outputs_with, read_with, run_fault, tell_maybe, tell_run, taken_output, run_command, run_line, output_of, outputs_behind, outputs_of, read_line}
use Rattle.pm_meaning.specs.Programs.{code_of, with_code, command_line_of, line_of_words, shell_words, needs_shell, expanded_line}
use Rattle.pm_meaning.specs.Turns.{say_then}
use Rattle.pm_meaning.specs.declared.process.End.{End}
use Rattle.pm_meaning.specs.declared.process.ProgramLine.{ProgramLine}
use Rattle.pm_meaning.specs.declared.process.ProgramLine.TheVariants.{Runs, NoWords, Unusable, TooLong}
use Rattle.pm_meaning.specs.Ends.{is_delivered, tell_delivery, is_trapped, trapped_with, run_trap, trap_by, trap_line, trap}
use Rattle.pm_meaning.specs.RunLaws.{IsLine, AreLines, IsClosing, AreClosing}
use Rattle.pm_meaning.specs.Running.{unlock_each}
use Rattle.pm_meaning.specs.Status.{with_exit_status}
use Rattle.pm_meaning.proofs.Lines.{are_logged}

pub closing_join : (es fs : List Entry) → AreClosing es → AreClosing fs → AreClosing (es ++ fs)
closing_join [] fs h k = k
closing_join (e ∷ es) fs h k = (h.0, closing_join es fs h.1 k)

line_closes : (act : Act) → IsLine act → IsClosing act
line_closes (SayErr line) h = tt
line_closes (SayFile name line) h = tt
line_closes other h = absurd h

lines_close : (es : List Entry) → AreLines es → AreClosing es
lines_close [] h = tt
lines_close (e ∷ es) h = (line_closes e.act h.0, lines_close es h.1)

-- a plan that asks for nothing but such acts
abbrev pub Closes : {R : Type 0} → Plan R → Type 0
Closes {R} plan = (es : List Entry) (end : R) → Plays plan es end → AreClosing es

pub closes_ends : {R : Type 0} (next : R) → Closes (Ends next)
closes_ends next [] end h = tt
closes_ends next (e ∷ es) end h = absurd h

closes_asked : {R : Type 0} (act : Act) (f : Reply → Plan R) → IsClosing act → ((reply : Reply) → Closes (f reply)) → Closes (and_then (ask act) f)
closes_asked act f closing closes [] end h = absurd h
closes_asked act f closing closes (e ∷ es) end h = (subst IsClosing (sym h.0) closing, closes e.reply es end h.2)

pub closes_then : {R S : Type 0} (p : Plan R) (f : R → Plan S) → Closes p → ((r : R) → Closes (f r)) → Closes (and_then p f)
closes_then p f first closes es end h =
    let k = parts_of p f es end h in
    subst AreClosing (sym k.whole) (closing_join k.front k.rest (first k.front k.middle k.plays_front) (closes k.middle k.rest end k.plays_rest))

closes_if : {R : Type 0} (b : Bool) (p q : Plan R) → Closes p → Closes q → Closes (if b then p else q)
closes_if true p q h k = h
closes_if false p q h k = k

closes_logged : (text : List ℕ) (p : Mind) → Closes (log text p)
closes_logged text p es end h = lines_close es (are_logged text p es end h)

closes_said : {R : Type 0} (p : Mind) (text : List ℕ) (next : R) → Closes (say_then p text next)
closes_said p text next = closes_then (log text p) (λ done. Ends next) (closes_logged text p) (λ done. closes_ends next)

-- the locks that are still held are given back
pub all_given : {R : Type 0} (names : List (List ℕ)) (next : R) → Closes (unlock_each names next)
all_given [] next = closes_ends next
all_given (name ∷ names) next = closes_asked (Unlock name) (λ reply. unlock_each names next) tt (λ reply. all_given names next)

pub given_end : {R : Type 0} (names : List (List ℕ)) (next : R) (es : List Entry) (end : R) → Plays (unlock_each names next) es end → end ≡ next
given_end [] next [] end h = h
given_end [] next (e ∷ es) end h = absurd h
given_end (name ∷ names) next [] end h = absurd h
given_end (name ∷ names) next (e ∷ es) end h = given_end names next es end h.2

told_after : (name : List ℕ) (p : Mind) (reply : Reply) → Closes (after_giving name p reply)
told_after name p reply =
    closes_if (is_fault reply) (say_then p (couldnt_unlock_line name) p) (Ends p) (closes_said p (couldnt_unlock_line name) p) (closes_ends p)

-- the lock of LOCKFILE is given back
pub global_given : (name : Option (List ℕ)) (p : Mind) → Closes (give_named name p)
global_given None p = closes_ends p
global_given (Some name) p =
    let given = after_giving name (without_global name p) in
    closes_if (holds_name p.locks name) (and_then (ask (Unlock name)) given) (Ends p) (closes_asked (Unlock name) given tt (told_after name (without_global name p))) (closes_ends p)

-- the lock of a block is given back
pub block_given : (name : Option (List ℕ)) (p : Mind) → Closes (give_maybe name p)
block_given None p = closes_ends p
block_given (Some name) p =
    let given = after_giving name (without_lock name p) in
    closes_if (holds_name p.locks name) (and_then (ask (Unlock name)) given) (Ends p) (closes_asked (Unlock name) given tt (told_after name (without_lock name p))) (closes_ends p)

-- the abstract is logged
pub delivery_told : (end : End) (p : Mind) → Closes (tell_delivery end p)
delivery_told end p = closes_if (is_delivered end && logs_last p) (log (abstract_of p) p) (Ends logged) (closes_logged (abstract_of p) p) (closes_ends logged)

run_told : {R : Type 0} (fault : Option (List ℕ)) (p : Mind) (next : R) → Closes (tell_maybe fault p next)
run_told None p next = closes_ends next
run_told (Some text) p next = closes_said p text next

-- a command is run
command_run : (command : Command) (text : List ℕ) (p : Mind) → Closes (run_command command text p)
command_run command text p =
    closes_asked (Run command (whole_of p.message) true)
    (λ reply. tell_run (run_end reply) text (with_code reply p) (output_with (taken_output (output_in reply)) (with_code reply p))) tt
    (λ reply. run_told (run_fault (run_end reply) text) (with_code reply p) (output_with (taken_output (output_in reply)) (with_code reply p)))

line_run : (line : ProgramLine) (text : List ℕ) (p : Mind) → Closes (run_line line text p)
line_run (Runs command) text p = command_run command text p
line_run NoWords text p = closes_said p (unusable_name_line text) (output_with [] p)
line_run Unusable text p = closes_said p (unusable_name_line text) (output_with [] p)
line_run (TooLong size) text p = closes_said p (value_too_long_line size) (output_with [] (overflowed p))

commands_run : (texts outputs : List (List ℕ)) (p : Mind) → Closes (outputs_behind outputs texts p)
commands_run [] outputs p = closes_ends (outputs_with outputs p)
commands_run (text ∷ texts) outputs p =
    closes_then (output_of text p) (λ one. outputs_behind (outputs ++ one.output ∷ []) texts one.mind) (line_run (command_line_of text p) text p)
    (λ one. commands_run texts (outputs ++ one.output ∷ []) one.mind)

line_read : (text : List ℕ) (p : Mind) → Closes (read_line text p)
line_read text p =
    let shell = read_with (line_of_words (shell_words text p.vars) p) p in
    let commands = outputs_of (commands_in Many text) p in
    let read : Outputs → Plan Read = λ ran. Ends (read_with (expanded_line ran.outputs text ran.mind) ran.mind) in
    closes_if (needs_shell text p) (Ends shell) (and_then commands read) (closes_ends shell)
    (closes_then commands read (commands_run (commands_in Many text) [] p) (λ ran. closes_ends (read_with (expanded_line ran.outputs text ran.mind) ran.mind)))

-- the program of TRAP is run
trap_run : (command : Command) (text : List ℕ) (p : Mind) → Closes (run_trap command text p)
trap_run command text p =
    closes_asked (Run command (whole_of p.message) false)
    (λ reply. tell_run (run_end reply) text (with_code reply p) (trapped_with (code_of (run_end reply)) (with_code reply p))) tt
    (λ reply. run_told (run_fault (run_end reply) text) (with_code reply p) (trapped_with (code_of (run_end reply)) (with_code reply p)))

trapped_by : (line : ProgramLine) (text : List ℕ) (p : Mind) → Closes (trap_by line text p)
trapped_by (Runs command) text p = trap_run command text p
trapped_by NoWords text p = closes_said p (unusable_name_line text) (trapped_with 127 p)
trapped_by Unusable text p = closes_said p (unusable_name_line text) (trapped_with 127 p)
trapped_by (TooLong size) text p = closes_said p (value_too_long_line size) (trapped_with 127 (overflowed p))

pub trapped : (end : End) (p : Mind) → Closes (trap end p)
trapped end p =
    let text = value_or [] (codes "TRAP") p.vars in
    let q = with_exit_status end p in
    closes_if (is_trapped end p) (trap_line text q) (Ends (trapped_with 127 p))
    (closes_then (read_line text q) (λ read. trap_by read.line text read.mind) (line_read text q) (λ read. trapped_by read.line text read.mind))
    (closes_ends (trapped_with 127 p))
