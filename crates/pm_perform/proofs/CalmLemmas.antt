-- Plans that deliver nothing.
use Rattle.std.proofs.Common.{◌≡◌, inl, inr, Bool, true, false, List, ℕ, [], ◌∷◌, ◌++◌, Option, Some, None, refl, sym, ap, ◌∙◌, append_assoc, append-nil}
use Rattle.std.specs.Prelude.{◌||◌, if◌then◌else◌}
use Rattle.std.specs.List.{list_any}
use Rattle.pm_host.specs.declared.command.Command.{Command}
use Rattle.pm_recipe.specs.declared.tree.Flags.{Flags}
use Rattle.pm_journal.specs.JournalState.{JournalState}
use Rattle.pm_journal.specs.Entries.{View}
use Rattle.pm_journal.specs.Executed.{Executes, OutOfMemory, LeadsTo}
use Rattle.pm_journal.specs.Outcomes.{run_end, output_in}
use Rattle.pm_journal.specs.Plan.{Plan, Ends, Asks, and_then, ask, Plays, Wants}
use Rattle.pm_journal.specs.declared.acts.Act.{Act}
use Rattle.pm_journal.specs.declared.acts.Act.TheVariants.{SayFile}
use Rattle.pm_journal.specs.declared.acts.Reply.{Reply}
use Rattle.pm_journal.specs.declared.acts.Reply.TheVariants.{Held}
use Rattle.pm_journal.specs.declared.acts.Entry.{Entry}
use Rattle.pm_meaning.specs.Delivering.{Ready, make_ready, say_each}
use Rattle.pm_meaning.specs.Locks.{is_nothing, with_lock}
use Rattle.pm_meaning.specs.Logging.{log, log_to, log_file, logged}
use Rattle.pm_meaning.specs.Minds.{Mind}
use Rattle.pm_meaning.specs.Outputs.{Outputs, run_fault, tell_maybe, run_command, run_line, output_of, output_with, outputs_behind, outputs_of, taken_output}
use Rattle.pm_meaning.specs.ProgramActions.{Tried, Trying, unlock_after, try_locked, try_under}
use Rattle.pm_meaning.specs.Programs.{command_line_of, with_code}
use Rattle.pm_meaning.specs.Turns.{say_then}
use Rattle.pm_meaning.specs.declared.process.ProgramLine.{ProgramLine}
use Rattle.pm_meaning.specs.declared.process.ProgramLine.TheVariants.{Runs, NoWords, Unusable, TooLong}
use Rattle.pm_meaning.specs.declared.process.Trial.TheVariants.{Unlocked}
use Rattle.pm_perform.specs.Undelivered.{delivers, hinders, any_delivers, Undelivered}

-- none of two holds
pub or_none : (b c : Bool) → b ≡ false → c ≡ false → (b || c) ≡ false
or_none true c e f = e
or_none false c e f = f

pub or_first : (b c : Bool) → (b || c) ≡ false → b ≡ false
or_first true c e = e
or_first false c e = refl

pub or_second : (b c : Bool) → (b || c) ≡ false → c ≡ false
or_second true c e = let f : true ≡ false = e in absurd (cc)
or_second false c e = e

-- of entries in two parts
pub any_none : (test : Entry → Bool) (front back : List Entry) → list_any test front ≡ false → list_any test back ≡ false → list_any test (front ++ back) ≡ false
any_none test [] back h k = k
any_none test (e ∷ es) back h k = or_none (test e) (list_any test (es ++ back)) (or_first (test e) (list_any test es) h) (any_none test es back (or_second (test e) (list_any test es) h) k)

pub any_front : (test : Entry → Bool) (front back : List Entry) → list_any test (front ++ back) ≡ false → list_any test front ≡ false
any_front test [] back h = refl
any_front test (e ∷ es) back h = or_none (test e) (list_any test es) (or_first (test e) (list_any test (es ++ back)) h) (any_front test es back (or_second (test e) (list_any test (es ++ back)) h))

pub any_back : (test : Entry → Bool) (front back : List Entry) → list_any test (front ++ back) ≡ false → list_any test back ≡ false
any_back test [] back h = h
any_back test (e ∷ es) back h = any_back test es back (or_second (test e) (list_any test (es ++ back)) h)

-- the new entries delivered nothing
pub record Calm (flags : Flags) (x y : JournalState) : Type 0 where
  pub more : List Entry
  pub entries : y.entries ≡ x.entries ++ more
  pub none : any_delivers flags more ≡ false

pub calm_none : (flags : Flags) (x y : JournalState) → y.entries ≡ x.entries → Calm flags x y
calm_none flags x y e = record { more = []; entries = e ∙ sym (append-nil x.entries); none = refl }

-- no act that the plan asks for delivers, whatever the replies
abbrev pub IsCalm : {R : Type 0} → Flags → Plan R → Type 0
IsCalm flags (Ends r) = Unit {0}
IsCalm flags (Asks act go_on) = (reply : Reply) → (delivers flags act reply ≡ false) × IsCalm flags (go_on reply)

entry_calm : (flags : Flags) (e : Entry) (act : Act) → e.act ≡ act → delivers flags act e.reply ≡ false → delivers flags e.act e.reply ≡ false
entry_calm flags e act is h = ap (λ a. delivers flags a e.reply) is ∙ h

pub calm_plays : {R : Type 0} (flags : Flags) (p : Plan R) (es : List Entry) (end : R) → IsCalm flags p → Plays p es end → any_delivers flags es ≡ false
calm_plays flags (Ends r) [] end h k = refl
calm_plays flags (Ends r) (e ∷ es) end h k = absurd k
calm_plays flags (Asks act f) [] end h k = absurd k
calm_plays flags (Asks act f) (e ∷ es) end h k = or_none (delivers flags e.act e.reply) (any_delivers flags es) (entry_calm flags e act k.0 (h e.reply).0) (calm_plays flags (f e.reply) es end (h e.reply).1 k.2)

pub calm_wants : {R : Type 0} (flags : Flags) (p : Plan R) (es : List Entry) (wanted : Act) → IsCalm flags p → Wants p es wanted → any_delivers flags es ≡ false
calm_wants flags (Ends r) es wanted h k = absurd k
calm_wants flags (Asks act f) [] wanted h k = refl
calm_wants flags (Asks act f) (e ∷ es) wanted h k = or_none (delivers flags e.act e.reply) (any_delivers flags es) (entry_calm flags e act k.0 (h e.reply).0) (calm_wants flags (f e.reply) es wanted (h e.reply).1 k.2)

pub calm_end : {R : Type 0} (flags : Flags) (p : Plan R) (end : R) (x y : JournalState) (a b : View) → IsCalm flags p → Executes p end x y a b → Calm flags x y
calm_end flags p end x y a b h k = record { more = k.more; entries = k.entries; none = calm_plays flags p k.more end h k.plays }

pub calm_out : {R : Type 0} (flags : Flags) (p : Plan R) (x y : JournalState) (a b : View) → IsCalm flags p → OutOfMemory p x y a b → Calm flags x y
calm_out flags p x y a b h k = record {
  more = k.more;
  entries = k.entries;
  none = elim k.where_off [
    | inl w ↦ calm_wants flags p k.more w.wanted h w.wants
    | inr e ↦ calm_plays flags p k.more e.end h e.plays
  ];
}

-- what leads to an end delivered nothing
pub calm_lead : {R : Type 0} (flags : Flags) (p : Plan R) (end : R) (x y : JournalState) (a b : View) → IsCalm flags p → LeadsTo p (Ends end) x y a b → Calm flags x y
calm_lead flags p end x y a b h k = record {
  more = k.more;
  entries = k.entries;
  none = any_front (λ e. delivers flags e.act e.reply) k.more [] (calm_plays flags p (k.more ++ []) end h (k.plays [] end refl));
}

pub calm_then : {R S : Type 0} (flags : Flags) (p : Plan R) (f : R → Plan S) → IsCalm flags p → ((r : R) → IsCalm flags (f r)) → IsCalm flags (and_then p f)
calm_then flags (Ends r) f h k = k r
calm_then flags (Asks act g) f h k = λ reply. ((h reply).0, calm_then flags (g reply) f (h reply).1 k)

pub calm_if : {R : Type 0} (flags : Flags) (b : Bool) (p q : Plan R) → IsCalm flags p → IsCalm flags q → IsCalm flags (if b then p else q)
calm_if flags true p q h k = h
calm_if flags false p q h k = k

-- lines
calm_to : (flags : Flags) (to : Option (List ℕ)) (text : List ℕ) → IsCalm flags (log_to to text)
calm_to flags None text = λ reply. (refl, tt)
calm_to flags (Some name) text = calm_if flags (is_nothing name) (Ends logged) (and_then (ask (SayFile name text)) (λ reply. Ends logged)) tt (λ reply. (refl, tt))

pub calm_log : (flags : Flags) (text : List ℕ) (p : Mind) → IsCalm flags (log text p)
calm_log flags text p = calm_to flags (log_file p) text

pub calm_said : {R : Type 0} (flags : Flags) (p : Mind) (text : List ℕ) (next : R) → IsCalm flags (say_then p text next)
calm_said flags p text next = calm_then flags (log text p) (λ done. Ends next) (calm_log flags text p) (λ done. tt)

pub calm_each : {R : Type 0} (flags : Flags) (p : Mind) (lines : List (List ℕ)) (next : R) → IsCalm flags (say_each p lines next)
calm_each flags p [] next = tt
calm_each flags p (line ∷ lines) next = calm_then flags (log line p) (λ done. say_each p lines next) (calm_log flags line p) (λ done. calm_each flags p lines next)

-- commands whose outputs are wanted
calm_maybe : {R : Type 0} (flags : Flags) (line : Option (List ℕ)) (p : Mind) (next : R) → IsCalm flags (tell_maybe line p next)
calm_maybe flags None p next = tt
calm_maybe flags (Some text) p next = calm_said flags p text next

calm_command : (flags : Flags) (command : Command) (text : List ℕ) (p : Mind) → IsCalm flags (run_command command text p)
calm_command flags command text p = λ reply. (refl, calm_maybe flags (run_fault (run_end reply) text) (with_code reply p) (output_with (taken_output (output_in reply)) (with_code reply p)))

calm_line : (flags : Flags) (line : ProgramLine) (text : List ℕ) (p : Mind) → IsCalm flags (run_line line text p)
calm_line flags (Runs command) text p = calm_command flags command text p
calm_line flags NoWords text p = calm_said flags p _ _
calm_line flags Unusable text p = calm_said flags p _ _
calm_line flags (TooLong size) text p = calm_said flags p _ _

calm_after : (flags : Flags) (outputs texts : List (List ℕ)) (p : Mind) → IsCalm flags (outputs_behind outputs texts p)
calm_after flags outputs [] p = tt
calm_after flags outputs (text ∷ texts) p =
    calm_then flags (output_of text p) (λ one. outputs_behind (outputs ++ one.output ∷ []) texts one.mind) (calm_line flags (command_line_of text p) text p) (λ one. calm_after flags (outputs ++ one.output ∷ []) texts one.mind)

pub calm_ready : (flags : Flags) (lock_commands commands : List (List ℕ)) (p : Mind) → IsCalm flags (make_ready lock_commands commands p)
calm_ready flags lock_commands commands p =
    let last : Outputs → Outputs → Plan Ready = λ first second. Ends (record { lock_outputs = first.outputs; outputs = second.outputs; mind = second.mind }) in
    calm_then flags (outputs_of lock_commands p) (λ first. and_then (outputs_of commands first.mind) (last first)) (calm_after flags [] lock_commands p)
    (λ first. calm_then flags (outputs_of commands first.mind) (last first) (calm_after flags [] commands first.mind) (λ second. tt))

-- what delivers nothing, under a lock file
calm_locked : (flags : Flags) (name : List ℕ) (work : Mind → Plan Tried) (p : Mind) (reply : Reply) → ((q : Mind) → IsCalm flags (work q)) → IsCalm flags (try_locked name work p reply)
calm_locked flags name work p (Held sleeps forced) h = calm_then flags (work (with_lock name p)) (unlock_after name forced) (h (with_lock name p)) (λ t reply. (refl, tt))
calm_locked flags name work p other h = tt

pub calm_under : (flags : Flags) (lock : Option (List ℕ)) (work : Mind → Plan Tried) (p : Mind) → ((q : Mind) → IsCalm flags (work q)) → IsCalm flags (try_under lock work p)
calm_under flags None work p h =
    let last : Tried → Plan Trying = λ t. Ends (record { trial = Unlocked t.outcome; mind = t.mind }) in
    calm_then flags (work p) last (h p) (λ t. tt)
calm_under flags (Some name) work p h = λ reply. (refl, calm_locked flags name work p reply h)

-- nothing was delivered, and then nothing was but for what hinders
pub sure_none : (flags : Flags) (x y : JournalState) → y.entries ≡ x.entries → Undelivered flags x y
sure_none flags x y e = record { more = []; entries = e ∙ sym (append-nil x.entries); none = λ final free. refl }

pub calm_sure : (flags : Flags) (x y : JournalState) → Calm flags x y → Undelivered flags x y
calm_sure flags x y h = record { more = h.more; entries = h.entries; none = λ final free. h.none }

pub sure_after : (flags : Flags) (x y z : JournalState) → Calm flags x y → Undelivered flags y z → Undelivered flags x z
sure_after flags x y z h k = record {
  more = h.more ++ k.more;
  entries = k.entries ∙ (ap (λ l. l ++ k.more) h.entries ∙ append_assoc x.entries h.more k.more);
  none = λ final free. any_none (λ e. delivers flags e.act e.reply) h.more k.more h.none (k.none final (any_back (λ e. hinders e.act e.reply) h.more k.more free));
}
