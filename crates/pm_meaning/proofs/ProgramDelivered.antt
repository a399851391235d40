-- A program or standard output gets the mail for good only by one act that was done.
use Rattle.std.proofs.Common.{◌≡◌, ℕ, Bool, true, false, not, ◌&&◌, List, [], ◌∷◌, ◌++◌, Option, Some, None, length, refl, sym, ap, ◌∙◌, append_assoc, subst}
use Rattle.std.specs.Prelude.{if◌then◌else◌}
use Rattle.pm_host.specs.declared.command.Command.{Command}
use Rattle.pm_recipe.specs.declared.tree.Flags.{Flags}
use Rattle.pm_subst.specs.Words.{words_in}
use Rattle.pm_journal.specs.LogText.{no_lock_line}
use Rattle.pm_journal.specs.Locking.{lock_act}
use Rattle.pm_journal.specs.Outcomes.{run_end}
use Rattle.pm_journal.specs.Plan.{Plan, Ends, and_then, Plays}
use Rattle.pm_journal.specs.declared.acts.Entry.{Entry}
use Rattle.pm_journal.specs.declared.acts.Reply.{Reply}
use Rattle.pm_journal.specs.declared.acts.Reply.TheVariants.{Held, Wrote}
use Rattle.pm_journal.specs.declared.locking.LockRule.{LockRule}
use Rattle.pm_meaning.specs.Assigning.{first_word}
use Rattle.pm_meaning.specs.Delivering.{Ready, make_ready}
use Rattle.pm_meaning.specs.RunLaws.{IsGot, IsGiven, AreLines, IsOneAct, IsFed, IsWritten}
use Rattle.pm_meaning.specs.Locks.{rule_of, blamed_text, is_lock_word, full_lock, is_taken, with_lock}
use Rattle.pm_meaning.specs.Abstracts.{copy_lines}
use Rattle.pm_meaning.specs.Logging.{log}
use Rattle.pm_meaning.specs.Minds.{Mind}
use Rattle.pm_meaning.specs.Forwards.{forward_reading}
use Rattle.pm_meaning.specs.ProgramActions.{Purpose, Delivers, Filters, Captures, Task, Tried, Trying, is_fine, feed_outcome, feed, work_of, write_outcome, write, unlock_after, try_locked, try_under, trial_lines, is_fine_trial, settled_by, done_acted, outcome_acted, trial_acted, is_delivery, after_trial, try_and_say, lacks_lock, lock_source, lock_mode, lock_commands, named_lock, told_first, do_under, do_named, unusable_text, do_line, lock_first, fed_piece, program_with, do_program, pipe_task, pipe, capture_task, capture_line, forward_task, forward, write_task, write_with, write_out}
use Rattle.pm_meaning.specs.Programs.{Reading, line_reading}
use Rattle.pm_meaning.specs.Turns.{ActEnd, is_for_good, for_good, refuse_act, is_too_long, skip_act}
use Rattle.pm_meaning.specs.declared.acted.Acted.TheVariants.{Delivered, CopyDone}
use Rattle.pm_meaning.specs.declared.acted.Cause.TheVariants as cause
use Rattle.pm_meaning.specs.declared.process.Outcome.{Outcome}
use Rattle.pm_meaning.specs.declared.process.Outcome.TheVariants.{Done, NotStarted, Lost, Closed, Code, TooLong as OutputTooLong, Overflow, Unwritten}
use Rattle.pm_meaning.specs.declared.process.ProgramLine.{ProgramLine}
use Rattle.pm_meaning.specs.declared.process.ProgramLine.TheVariants.{Runs, NoWords, Unusable, TooLong}
use Rattle.pm_meaning.specs.declared.process.Trial.{Trial}
use Rattle.pm_meaning.specs.declared.process.Trial.TheVariants.{Unlocked, NotLocked, Locked}
use Rattle.pm_journal.proofs.WalkJoin.{parts_of}
use Rattle.pm_meaning.proofs.MailboxDelivered.{all_said, if_last}
use Rattle.pm_meaning.proofs.Lines.{told_of}
use Rattle.pm_meaning.proofs.NoDelivery.{never_failed, never_overflowed, never_too_long}

fine_is : (outcome : Outcome) → is_fine outcome ≡ true → outcome ≡ Done
fine_is Done h = refl
fine_is other h = let e : false ≡ true = h in absurd (cc)

written_is : (reply : Reply) → is_fine (write_outcome reply) ≡ true → reply ≡ Wrote
written_is Wrote h = refl
written_is other h = let e : false ≡ true = h in absurd (cc)

-- one act that passes
record One (Passes : Entry → Type 0) (es : List Entry) : Type 0 where
  act : Entry
  only : es ≡ act ∷ []
  passes : Passes act

-- what is done by this work is one act that passes
abbrev OneOf : (Entry → Type 0) → (Mind → Plan Tried) → Type 0
OneOf Passes work = (p : Mind) (es : List Entry) (t : Tried) → Plays (work p) es t → is_fine t.outcome ≡ true → One Passes es

one_fed : (flags : Flags) (folder : List ℕ) (command : Command) (input : List ℕ) → OneOf (IsFed flags command input) (feed flags folder command input)
one_fed flags folder command input p [] t h fine = absurd h
one_fed flags folder command input p (e ∷ []) t h fine = record {
  act = e;
  only = refl;
  passes = record { act_is = h.0; done = fine_is (feed_outcome flags (length input) (run_end e.reply)) (sym (ap (λ (u : Tried). is_fine u.outcome) h.2) ∙ fine) };
}
one_fed flags folder command input p (e ∷ f ∷ es) t h fine = absurd h.2

-- what is known of the one act of work for this purpose: where the mail is delivered, that it was fed and didn't fail
abbrev pub PassesFor : Purpose → Flags → List ℕ → Command → Entry → Type 0
PassesFor (Delivers destination) flags input command e = IsFed flags command input e
PassesFor other flags input command e = Unit {0}

one_worked : (purpose : Purpose) (flags : Flags) (input : List ℕ) (command : Command) → OneOf (PassesFor purpose flags input command) (work_of purpose flags input command)
one_worked (Delivers destination) flags input command p es t h fine = one_fed flags destination command input p es t h fine
one_worked Filters flags input command p [] t h fine = absurd h
one_worked Filters flags input command p (e ∷ []) t h fine = record { act = e; only = refl; passes = tt }
one_worked Filters flags input command p (e ∷ f ∷ es) t h fine = absurd h.2
one_worked (Captures name) flags input command p [] t h fine = absurd h
one_worked (Captures name) flags input command p (e ∷ []) t h fine = record { act = e; only = refl; passes = tt }
one_worked (Captures name) flags input command p (e ∷ f ∷ es) t h fine = absurd h.2

one_written : (piece : List ℕ) → OneOf (IsWritten piece) (write piece)
one_written piece p [] t h fine = absurd h
one_written piece p (e ∷ []) t h fine = record { act = e; only = refl; passes = record { act_is = h.0; done = written_is e.reply (sym (ap (λ (u : Tried). is_fine u.outcome) h.2) ∙ fine) } }
one_written piece p (e ∷ f ∷ es) t h fine = absurd h.2

-- the same under its lock
record OneUnder (Passes : Entry → Type 0) (es : List Entry) : Type 0 where
  lock : Option (List ℕ)
  got : List Entry
  act : Entry
  given : List Entry
  whole : es ≡ got ++ (act ∷ given)
  is_got : IsGot lock got
  passes : Passes act
  is_given : IsGiven lock given

unlocked_end : (Passes : Entry → Type 0) (work : Mind → Plan Tried) (p : Mind) (t : Tried) (front rest : List Entry) (done : Trying) → OneOf Passes work → Plays (work p) front t
    → Plays (Ends (record { trial = Unlocked t.outcome; mind = t.mind })) rest done → is_fine_trial done.trial ≡ true → OneUnder Passes (front ++ rest)
unlocked_end Passes work p t front [] done one h k fine =
    let o = one p front t h (sym (ap (λ (d : Trying). is_fine_trial d.trial) k) ∙ fine) in
    record { lock = None; got = []; act = o.act; given = []; whole = ap (λ l. l ++ []) o.only; is_got = refl; passes = o.passes; is_given = refl }
unlocked_end Passes work p t front (e ∷ rest) done one h k fine = absurd k

given_end : (name : List ℕ) (forced : ℕ) (t : Tried) (es : List Entry) (done : Trying) → Plays (unlock_after name forced t) es done → is_fine_trial done.trial ≡ true → IsGiven (Some name) es × (is_fine t.outcome ≡ true)
given_end name forced t [] done h fine = absurd h
given_end name forced t (e ∷ []) done h fine = ((h.0, refl), sym (ap (λ (d : Trying). is_fine_trial d.trial) h.2) ∙ fine)
given_end name forced t (e ∷ f ∷ es) done h fine = absurd h.2

locked_end : (Passes : Entry → Type 0) (work : Mind → Plan Tried) (p : Mind) (name : List ℕ) (rule : LockRule) (e : Entry) (es : List Entry) (done : Trying) (reply : Reply) → OneOf Passes work
    → e.act ≡ lock_act name rule → e.reply ≡ reply → Plays (try_locked name work p reply) es done → is_fine_trial done.trial ≡ true → OneUnder Passes (e ∷ es)
locked_end Passes work p name rule e es done (Held sleeps forced) one act is h fine =
    let k = parts_of (work (with_lock name p)) (unlock_after name forced) es done h in
    let given = given_end name forced k.middle k.rest done k.plays_rest fine in
    let o = one (with_lock name p) k.front k.middle k.plays_front given.1 in
    record {
      lock = Some name;
      got = e ∷ [];
      act = o.act;
      given = k.rest;
      whole = ap (λ l. e ∷ l) (k.whole ∙ ap (λ l. l ++ k.rest) o.only);
      is_got = (rule, sleeps, forced, act, is, refl);
      passes = o.passes;
      is_given = given.0;
    }
locked_end Passes work p name rule e [] done other one act is h fine = let no : false ≡ true = sym (ap (λ (d : Trying). is_fine_trial d.trial) h) ∙ fine in absurd (cc)
locked_end Passes work p name rule e (f ∷ es) done other one act is h fine = absurd h

under_end : (Passes : Entry → Type 0) (lock : Option (List ℕ)) (work : Mind → Plan Tried) (p : Mind) (es : List Entry) (done : Trying) → OneOf Passes work → Plays (try_under lock work p) es done
    → is_fine_trial done.trial ≡ true → OneUnder Passes es
under_end Passes None work p es done one h fine =
    let k = parts_of (work p) (λ t. Ends (record { trial = Unlocked t.outcome; mind = t.mind })) es done h in
    subst (OneUnder Passes) (sym k.whole) (unlocked_end Passes work p k.middle k.front k.rest done one k.plays_front k.plays_rest fine)
under_end Passes (Some name) work p [] done one h fine = absurd h
under_end Passes (Some name) work p (e ∷ es) done one h fine = locked_end Passes work p name (rule_of p.vars) e es done e.reply one h.0 refl h.2 fine

-- the mail is delivered, and no copy of it
abbrev pub is_final : Purpose → Flags → Bool
is_final (Delivers destination) flags = not flags.copy
is_final other flags = false

copy_final : (b : Bool) → is_for_good (if b then CopyDone else Delivered) ≡ true → not b ≡ true
copy_final true e = let f : false ≡ true = e in absurd (cc)
copy_final false e = refl

done_final : (purpose : Purpose) (flags : Flags) → is_for_good (done_acted purpose flags) ≡ true → is_final purpose flags ≡ true
done_final (Delivers destination) flags h = copy_final flags.copy h
done_final Filters flags h = let e : false ≡ true = h in absurd (cc)
done_final (Captures name) flags h = let e : false ≡ true = h in absurd (cc)

outcome_final : (purpose : Purpose) (flags : Flags) (outcome : Outcome) → is_for_good (outcome_acted purpose flags outcome) ≡ true → (is_final purpose flags ≡ true) × (is_fine outcome ≡ true)
outcome_final purpose flags Done h = (done_final purpose flags h, refl)
outcome_final purpose flags NotStarted h = let e : false ≡ true = h in absurd (cc)
outcome_final purpose flags Lost h = let e : false ≡ true = h in absurd (cc)
outcome_final purpose flags Closed h = let e : false ≡ true = h in absurd (cc)
outcome_final purpose flags (Code code) h = let e : false ≡ true = h in absurd (cc)
outcome_final purpose flags OutputTooLong h = let e : false ≡ true = h in absurd (cc)
outcome_final purpose flags (Overflow size) h = let e : false ≡ true = h in absurd (cc)
outcome_final purpose flags Unwritten h = let e : false ≡ true = h in absurd (cc)

-- where the mail was delivered for good, all was done
last_is : (purpose : Purpose) (flags : Flags) (trial : Trial) → is_for_good (trial_acted purpose flags trial) ≡ true → (is_final purpose flags ≡ true) × (is_fine_trial trial ≡ true)
last_is purpose flags (Unlocked outcome) h = outcome_final purpose flags outcome h
last_is purpose flags (NotLocked name cause) h = let e : false ≡ true = h in absurd (cc)
last_is purpose flags (Locked name forced outcome stuck) h = outcome_final purpose flags outcome h

-- the work of a task was done for good
record IsDone (t : Task) (Passes : Entry → Type 0) (es : List Entry) : Type 0 where
  last_is : is_final t.purpose t.flags ≡ true
  one : IsOneAct Passes es

regroup : (all told es front rest got given : List Entry) (act : Entry) → all ≡ told ++ es → es ≡ front ++ rest → front ≡ got ++ (act ∷ given) → all ≡ told ++ (got ++ (act ∷ (given ++ rest)))
regroup all told es front rest got given act joined whole parts = joined ∙ ap (λ l. told ++ l) (whole ∙ ap (λ l. l ++ rest) parts ∙ append_assoc got (act ∷ given) rest)

tried_end : (t : Task) (Passes : Entry → Type 0) (lock : Option (List ℕ)) (work : Mind → Plan Tried) (p : Mind) (told es all : List Entry) (end : ActEnd) → OneOf Passes work → AreLines told → all ≡ told ++ es
    → Plays (try_and_say t lock work p) es end → for_good end ≡ true → IsDone t Passes all
tried_end t Passes lock work p told es all end one are_told joined h passes =
    let k = parts_of (try_under lock work p) (after_trial t) es end h in
    let q = settled_by k.middle.trial k.middle.mind in
    let lines = trial_lines t.flags t.text k.middle.trial ++ copy_lines (is_delivery t.purpose && is_fine_trial k.middle.trial) t.flags q in
    let said = all_said q lines (record { acted = trial_acted t.purpose t.flags k.middle.trial; mind = q }) end k.rest k.plays_rest in
    let last = last_is t.purpose t.flags k.middle.trial (ap for_good (sym said.same) ∙ passes) in
    let under = under_end Passes lock work p k.front k.middle one k.plays_front last.1 in
    record {
      last_is = last.0;
      one = record {
        lock = under.lock;
        told = told;
        got = under.got;
        act = under.act;
        given = under.given;
        lines = k.rest;
        whole = regroup all told es k.front k.rest under.got under.given under.act joined k.whole under.whole;
        are_told = are_told;
        is_got = under.is_got;
        passes = under.passes;
        is_given = under.is_given;
        are_lines = said.lines;
      };
    }

told_end : (t : Task) (Passes : Entry → Type 0) (lock : Option (List ℕ)) (work : Mind → Plan Tried) (p : Mind) (b : Bool) (es : List Entry) (end : ActEnd) → OneOf Passes work
    → Plays (if b then and_then (log (no_lock_line t.text) p) (λ done. try_and_say t lock work p) else try_and_say t lock work p) es end → for_good end ≡ true → IsDone t Passes es
told_end t Passes lock work p true es end one h passes =
    let k = told_of (no_lock_line t.text) p (λ done. try_and_say t lock work p) es end h in
    tried_end t Passes lock work p k.told k.rest es end one k.are_lines k.whole k.plays passes
told_end t Passes lock work p false es end one h passes = tried_end t Passes lock work p [] es es end one tt refl h passes

named_end : (t : Task) (Passes : Entry → Type 0) (word : Option (List ℕ)) (work : Mind → Plan Tried) (p : Mind) (es : List Entry) (end : ActEnd) → OneOf Passes work
    → Plays (do_named t word work p) es end → for_good end ≡ true → IsDone t Passes es
named_end t Passes word work p es end one h passes =
    let P = IsDone t Passes es in
    let lock = full_lock p.base word in
    let blamed = blamed_text t.lock t.text in
    let next = told_first t p (try_and_say t lock work p) in
    if_last P (not (is_lock_word word)) (refuse_act cause.BadName blamed p) (do_under t lock work p) es end (λ l. absurd (never_failed cause.BadName blamed p es end l passes))
    (if_last P (is_taken lock [] p.locks) (refuse_act cause.NameIsLock blamed p) next es end (λ l. absurd (never_failed cause.NameIsLock blamed p es end l passes))
    (λ l. told_end t Passes lock work p (lacks_lock t) es end one l passes)) h

-- the lock file's text was expanded, and then this came
first_end : (P : Type 0) (t : Task) (outputs : List (List ℕ)) (next : Option (List ℕ) → Plan ActEnd) (p : Mind) (es : List Entry) (end : ActEnd) → ((word : Option (List ℕ)) → Plays (next word) es end → P)
    → Plays (lock_first t outputs next p) es end → for_good end ≡ true → P
first_end P t outputs next p es end ends h passes =
    let mode = lock_mode t in
    let source = lock_source t in
    let word = named_lock t (first_word (words_in mode p.vars outputs source)) p in
    if_last P (is_too_long mode source p.vars outputs) (skip_act mode source outputs p) (next word) es end (λ l. absurd (never_too_long mode source outputs p es end l passes)) (ends word) h

-- the program of a line did its work for good
record IsRun (t : Task) (Passes : Command → Entry → Type 0) (line : ProgramLine) (es : List Entry) : Type 0 where
  command : Command
  runs : line ≡ Runs command
  done : IsDone t (Passes command) es

line_end : (t : Task) (Passes : Command → Entry → Type 0) (word : Option (List ℕ)) (work : Command → Mind → Plan Tried) (line : ProgramLine) (p : Mind) (es : List Entry) (end : ActEnd)
    → ((command : Command) → OneOf (Passes command) (work command)) → Plays (do_line t word work line p) es end → for_good end ≡ true → IsRun t Passes line es
line_end t Passes word work (Runs command) p es end one h passes = record { command = command; runs = refl; done = named_end t (Passes command) word (work command) p es end (one command) h passes }
line_end t Passes word work NoWords p es end one h passes = absurd (never_failed cause.NoWords t.text p es end h passes)
line_end t Passes word work Unusable p es end one h passes = absurd (never_failed cause.BadName (unusable_text t word) p es end h passes)
line_end t Passes word work (TooLong count) p es end one h passes = absurd (never_overflowed count p es end h passes)

final_is : (copy : Bool) → not copy ≡ true → copy ≡ false
final_is true h = let e : false ≡ true = h in absurd (cc)
final_is false h = refl

-- A program did its work for good: after the commands of the texts, by one act alone.
pub record ProgramMade (t : Task) (reading : Reading) (p : Mind) (es : List Entry) : Type 0 where
  pub ran : List Entry
  pub last : List Entry
  pub whole : es ≡ ran ++ last
  pub ready : Ready
  pub runs : Plays (make_ready (lock_commands t) reading.commands p) ran ready
  pub final : is_final t.purpose t.flags ≡ true
  pub command : Command
  pub read : reading.read ready.outputs ready.mind ≡ Runs command
  pub one : IsOneAct (PassesFor t.purpose t.flags (fed_piece t.flags ready.mind) command) last

program_made : (t : Task) (reading : Reading) (p : Mind) (es : List Entry) (end : ActEnd) → Plays (do_program t reading p) es end → for_good end ≡ true → ProgramMade t reading p es
program_made t reading p es end h passes =
    let k = parts_of (make_ready (lock_commands t) reading.commands p) (λ ready. program_with t reading ready) es end h in
    let q = k.middle.mind in
    let piece = fed_piece t.flags q in
    let line = reading.read k.middle.outputs q in
    let Passes : Command → Entry → Type 0 = λ command. PassesFor t.purpose t.flags piece command in
    let work : Command → Mind → Plan Tried = λ command. work_of t.purpose t.flags piece command in
    let run : IsRun t Passes line k.rest =
    first_end (IsRun t Passes line k.rest) t k.middle.lock_outputs (λ word. do_line t word work line q) q k.rest end
    (λ word l. line_end t Passes word work line q k.rest end (λ command. one_worked t.purpose t.flags piece command) l passes) k.plays_rest passes in
    record {
      ran = k.front;
      last = k.rest;
      whole = k.whole;
      ready = k.middle;
      runs = k.plays_front;
      final = run.done.last_is;
      command = run.command;
      read = run.runs;
      one = run.done.one;
    }

-- A pipe delivers for good by its program alone, and is no filter.
pub record PipeMade (flags : Flags) (lock : Option (List ℕ)) (line : List ℕ) (p : Mind) (es : List Entry) : Type 0 where
  pub made : ProgramMade (pipe_task flags lock line) (line_reading line p) p es
  pub piped : flags.filter ≡ false
  pub final : flags.copy ≡ false
  pub one : IsOneAct (IsFed flags made.command (fed_piece flags made.ready.mind)) made.last

-- what is known of a pipe that is no filter
record NoFilter (b : Bool) (flags : Flags) (line input : List ℕ) (command : Command) (es : List Entry) : Type 0 where
  piped : b ≡ false
  final : flags.copy ≡ false
  one : IsOneAct (IsFed flags command input) es

no_filter : (b : Bool) (flags : Flags) (line input : List ℕ) (command : Command) (es : List Entry) → is_final (if b then Filters else Delivers line) flags ≡ true
    → IsOneAct (PassesFor (if b then Filters else Delivers line) flags input command) es → NoFilter b flags line input command es
no_filter true flags line input command es final one = let e : false ≡ true = final in absurd (cc)
no_filter false flags line input command es final one = record { piped = refl; final = final_is flags.copy final; one = one }

pub pipe_made : (flags : Flags) (lock : Option (List ℕ)) (line : List ℕ) (p : Mind) (es : List Entry) (end : ActEnd) → Plays (pipe flags lock line p) es end → for_good end ≡ true → PipeMade flags lock line p es
pipe_made flags lock line p es end h passes =
    let k = program_made (pipe_task flags lock line) (line_reading line p) p es end h passes in
    let n = no_filter flags.filter flags line (fed_piece flags k.ready.mind) k.command k.last k.final k.one in
    record { made = k; piped = n.piped; final = n.final; one = n.one }

-- a capture never delivers
pub never_captured : (flags : Flags) (lock : Option (List ℕ)) (name line : List ℕ) (p : Mind) (es : List Entry) (end : ActEnd) → Plays (capture_line flags lock name line p) es end → for_good end ≡ true → ⊥
never_captured flags lock name line p es end h passes =
    let k = program_made (capture_task flags lock name line) (line_reading line p) p es end h passes in
    let e : false ≡ true = k.final in absurd (cc)

-- a forward delivers for good by its program alone
pub record ForwardMade (flags : Flags) (lock : Option (List ℕ)) (text : List ℕ) (p : Mind) (es : List Entry) : Type 0 where
  pub made : ProgramMade (forward_task flags lock text) (forward_reading text) p es
  pub final : flags.copy ≡ false

pub forward_made : (flags : Flags) (lock : Option (List ℕ)) (text : List ℕ) (p : Mind) (es : List Entry) (end : ActEnd) → Plays (forward flags lock text p) es end → for_good end ≡ true → ForwardMade flags lock text p es
forward_made flags lock text p es end h passes =
    let k = program_made (forward_task flags lock text) (forward_reading text) p es end h passes in
    record { made = k; final = final_is flags.copy k.final }

-- and so does standard output
pub record OutputMade (flags : Flags) (lock : Option (List ℕ)) (p : Mind) (es : List Entry) : Type 0 where
  pub ran : List Entry
  pub last : List Entry
  pub whole : es ≡ ran ++ last
  pub ready : Ready
  pub runs : Plays (make_ready (lock_commands (write_task flags lock)) [] p) ran ready
  pub final : flags.copy ≡ false
  pub one : IsOneAct (IsWritten (fed_piece flags ready.mind)) last

pub output_made : (flags : Flags) (lock : Option (List ℕ)) (p : Mind) (es : List Entry) (end : ActEnd) → Plays (write_out flags lock p) es end → for_good end ≡ true → OutputMade flags lock p es
output_made flags lock p es end h passes =
    let t = write_task flags lock in
    let k = parts_of (make_ready (lock_commands t) [] p) (λ ready. write_with t ready) es end h in
    let q = k.middle.mind in
    let piece = fed_piece flags q in
    let done : IsDone t (IsWritten piece) k.rest =
    first_end (IsDone t (IsWritten piece) k.rest) t k.middle.lock_outputs (λ word. do_named t word (write piece) q) q k.rest end
    (λ word l. named_end t (IsWritten piece) word (write piece) q k.rest end (one_written piece) l passes) k.plays_rest passes in
    record { ran = k.front; last = k.rest; whole = k.whole; ready = k.middle; runs = k.plays_front; final = final_is flags.copy done.last_is; one = done.one }
