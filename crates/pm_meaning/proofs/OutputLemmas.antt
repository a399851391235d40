-- Commands that are run in plans.
use Rattle.std.proofs.Common.{◌≡◌, ◌<◌, ◌+◌, Bool, true, false, List, ℕ, [], ◌∷◌, ◌++◌, Option, Some, None, drop, length, get_or, refl, sym, ap, ◌∙◌, subst}
use Rattle.std.proofs.lemmas.List.{at_drop_more}
use Rattle.std.specs.Prelude.{if◌then◌else◌}
use Rattle.pm_journal.specs.JournalState.{JournalState}
use Rattle.pm_journal.specs.Entries.{View}
use Rattle.pm_journal.specs.Outcomes.{run_end, output_in}
use Rattle.pm_journal.specs.Plan.{Plan, Ends, and_then, ask}
use Rattle.pm_journal.specs.Executed.{Executes, OutOfMemory, LeadsTo}
use Rattle.pm_journal.specs.declared.acts.Act.TheVariants.{Run, SayFile}
use Rattle.pm_journal.specs.declared.acts.Reply.{Reply}
use Rattle.pm_journal.specs.declared.children.RunEnd.{RunEnd}
use Rattle.pm_host.specs.declared.command.Command.{Command}
use Rattle.pm_message.specs.Split.{whole_of}
use Rattle.pm_subst.specs.Commands.{commands_in}
use Rattle.pm_subst.specs.declared.kinds.Mode.TheVariants.{Many}
use Rattle.pm_meaning.specs.Delivering.{Ready}
use Rattle.pm_meaning.specs.Locks.{is_nothing}
use Rattle.pm_meaning.specs.Logging.{log, log_to, log_file, logged}
use Rattle.pm_meaning.specs.Minds.{Mind}
use Rattle.pm_meaning.specs.Outputs.{Output, output_with, Outputs, outputs_with, outputs_of, outputs_behind, output_of, tell_run, tell_maybe, run_fault, taken_output, run_command, Read, read_with, read_line}
use Rattle.pm_meaning.specs.Turns.{say_then}
use Rattle.pm_meaning.specs.Programs.{line_of_words, shell_words, needs_shell, expanded_line, code_of, with_code, with_exit_code}
use Rattle.pm_journal.proofs.PlanLeads.{leads_itself, leads_on, leads_to_end, leads_to_want}
use Rattle.pm_journal.proofs.ActPlans.{executes_then}
use Rattle.pm_journal.proofs.WantsMemory.{executes_nothing, out_front, out_then, out_anywhere}
use Rattle.pm_meaning.specs.Ready.{told}
use Rattle.pm_meaning.proofs.Choices.{line_told, line_out}
use Rattle.pm_meaning.proofs.Choices.{if_yes, if_no}

-- what comes after the commands of an action's lock file, and after those of its text
abbrev pub after_texts : Outputs → Outputs → Plan Ready
after_texts first second = Ends (record { lock_outputs = first.outputs; outputs = second.outputs; mind = second.mind })

abbrev pub after_lock : List (List ℕ) → Outputs → Plan Ready
after_lock commands first = and_then (outputs_of commands first.mind) (after_texts first)

-- before any command
pub commands_begin : (texts : List (List ℕ)) (p : Mind) (outputs : List (List ℕ)) (x : JournalState) (a : View) → outputs ≡ [] → LeadsTo (outputs_of texts p) (outputs_behind outputs texts p) x x a a
commands_begin texts p outputs x a none = subst (λ o. LeadsTo (outputs_of texts p) (outputs_behind o texts p) x x a a) (sym none) (leads_itself (outputs_of texts p) x a)

-- one command more was run
module _ (whole : Plan Outputs) (texts : List (List ℕ)) (i : ℕ) (d text shown : List ℕ) (p : Mind) (outputs : List (List ℕ)) where
  -- the command is the next
  abbrev IsNext : Type 0
  IsNext = (text ≡ get_or texts i d) × (i < length texts) × (shown ≡ text)

  first_of : (is : IsNext) (x y : JournalState) (a b : View) → LeadsTo whole (outputs_behind outputs (drop i texts) p) x y a b
      → LeadsTo whole (and_then (output_of shown p) (λ one. outputs_behind (outputs ++ one.output ∷ []) (drop (i + 1) texts) one.mind)) x y a b
  first_of is x y a b h =
      subst (λ t. LeadsTo whole (and_then (output_of t p) (λ one. outputs_behind (outputs ++ one.output ∷ []) (drop (i + 1) texts) one.mind)) x y a b) (sym is.2)
      (subst (λ l. LeadsTo whole (outputs_behind outputs l p) x y a b) (at_drop_more (λ l. l) texts i d is.1 ∙ ap (λ t. t ∷ drop (i + 1) texts) (sym is.0)) h)

  pub command_on : (is : IsNext) (output : List ℕ) (q : Mind) (x y z : JournalState) (a b c : View) → LeadsTo whole (outputs_behind outputs (drop i texts) p) x y a b
      → Executes (output_of shown p) (output_with output q) y z b c → LeadsTo whole (outputs_behind (outputs ++ output ∷ []) (drop (i + 1) texts) q) x z a c
  command_on is output q x y z a b c h k =
      leads_on whole (output_of shown p) (λ one. outputs_behind (outputs ++ one.output ∷ []) (drop (i + 1) texts) one.mind) (output_with output q) x y z a b c (first_of is x y a b h) k

  pub command_wants : (is : IsNext) (x y z : JournalState) (a b c : View) → LeadsTo whole (outputs_behind outputs (drop i texts) p) x y a b → OutOfMemory (output_of shown p) y z b c → OutOfMemory whole x z a c
  command_wants is x y z a b c h k =
      let next : Output → Plan Outputs = λ one. outputs_behind (outputs ++ one.output ∷ []) (drop (i + 1) texts) one.mind in
      leads_to_want whole (and_then (output_of shown p) next) x y z a b c (first_of is x y a b h) (out_front (output_of shown p) next y z b c k)

-- memory was wanting after the run of a command
pub command_left : (whole : Plan Outputs) (texts : List (List ℕ)) (i : ℕ) (d text shown : List ℕ) (p : Mind) (outputs : List (List ℕ)) → IsNext whole texts i d text shown p outputs → (output : List ℕ) (q : Mind) (x y z : JournalState) (a b c : View)
    → LeadsTo whole (outputs_behind outputs (drop i texts) p) x y a b → Executes (output_of shown p) (output_with output q) y z b c → OutOfMemory whole x z a c
command_left whole texts i d text shown p outputs is output q x y z a b c h k =
    let rest = outputs_behind (outputs ++ output ∷ []) (drop (i + 1) texts) q in
    leads_to_want whole rest x z z a c c (command_on whole texts i d text shown p outputs is output q x y z a b c h k) (out_anywhere rest z z c refl)

-- one command more was run, and its output stands after the others
pub command_pushed : (whole : Plan Outputs) (texts : List (List ℕ)) (i : ℕ) (d text shown : List ℕ) (p : Mind) (outputs : List (List ℕ)) → IsNext whole texts i d text shown p outputs → (output : List ℕ) (q : Mind) (pushed : List (List ℕ)) (x y z : JournalState) (a b c : View)
    → LeadsTo whole (outputs_behind outputs (drop i texts) p) x y a b → Executes (output_of shown p) (output_with output q) y z b c → pushed ≡ outputs ++ output ∷ []
    → LeadsTo whole (outputs_behind pushed (drop (i + 1) texts) q) x z a c
command_pushed whole texts i d text shown p outputs is output q pushed x y z a b c h k e =
    subst (λ o. LeadsTo whole (outputs_behind o (drop (i + 1) texts) q) x z a c) (sym e) (command_on whole texts i d text shown p outputs is output q x y z a b c h k)

-- all commands were run
pub commands_over : (whole : Plan Outputs) (texts rest : List (List ℕ)) (p : Mind) (outputs : List (List ℕ)) (x y : JournalState) (a b : View) → rest ≡ [] → LeadsTo whole (outputs_behind outputs rest p) x y a b
    → Executes whole (outputs_with outputs p) x y a b
commands_over whole texts rest p outputs x y a b e h =
    leads_to_end whole (Ends (outputs_with outputs p)) (outputs_with outputs p) x y y a b b (subst (λ l. LeadsTo whole (outputs_behind outputs l p) x y a b) e h) (executes_nothing (outputs_with outputs p) y y b refl)

-- a text is logged, and another end comes
file_then : {R : Type 0} (b : Bool) (name text : List ℕ) (next : R)
    → and_then (and_then (if b then Ends logged else and_then (ask (SayFile name text)) (λ reply. Ends logged)) (λ done. Ends told)) (λ _. Ends next)
    ≡ and_then (if b then Ends logged else and_then (ask (SayFile name text)) (λ reply. Ends logged)) (λ done. Ends next)
file_then true name text next = refl
file_then false name text next = refl

log_then : {R : Type 0} (to : Option (List ℕ)) (text : List ℕ) (next : R) → and_then (and_then (log_to to text) (λ done. Ends told)) (λ _. Ends next) ≡ and_then (log_to to text) (λ done. Ends next)
log_then None text next = refl
log_then (Some name) text next = file_then (is_nothing name) name text next

-- a plan whose end doesn't matter, with another end
pub told_then : {R : Type 0} (fault : Option (List ℕ)) (p : Mind) (next : R) → and_then (tell_maybe fault p told) (λ _. Ends next) ≡ tell_maybe fault p next
told_then None p next = refl
told_then (Some text) p next = log_then (log_file p) text next

-- what comes after the run of a command
abbrev pub after_run : List ℕ → Mind → Reply → Plan Output
after_run text p reply = tell_run (run_end reply) text (with_code reply p) (output_with (taken_output (output_in reply)) (with_code reply p))

-- the same by how the run ended
abbrev by_end : List ℕ → Mind → RunEnd → Option (List ℕ) → Plan Output
by_end text p end came = tell_run end text (with_exit_code (code_of end) p) (output_with (taken_output came) (with_exit_code (code_of end) p))

module _ (command : Command) (input text : List ℕ) (end : RunEnd) (came : Option (List ℕ)) (p q : Mind) (reply : Reply) where
  -- the end and the output are those of the reply
  abbrev IsOf : Type 0
  IsOf = (end ≡ run_end reply) × (came ≡ output_in reply) × (q ≡ with_exit_code (code_of end) p)

  behind_is : IsOf → tell_run end text q (output_with (taken_output came) q) ≡ after_run text p reply
  behind_is is =
      ap (λ m. tell_run end text m (output_with (taken_output came) m)) is.2
      ∙ (ap (λ e. by_end text p e came) is.0 ∙ ap (by_end text p (run_end reply)) is.1)

  pub told_after : (is : IsOf) (output : List ℕ) (x y : JournalState) (a b : View) → output ≡ taken_output came → Executes (tell_run end text q told) tt x y a b → Executes (after_run text p reply) (output_with output q) x y a b
  told_after is output x y a b same h =
      let next = output_with (taken_output came) q in
      subst (λ plan. Executes plan (output_with output q) x y a b) (behind_is is)
      (subst (λ o. Executes (tell_run end text q next) (output_with o q) x y a b) (sym same)
      (subst (λ plan. Executes plan next x y a b) (told_then (run_fault end text) q next)
      (executes_then (tell_run end text q told) (λ _. Ends next) told next x y y a b b h (executes_nothing next y y b refl))))

  pub untold_after : (is : IsOf) (x y : JournalState) (a b : View) → OutOfMemory (tell_run end text q told) x y a b → OutOfMemory (after_run text p reply) x y a b
  untold_after is x y a b h =
      let next = output_with (taken_output came) q in
      subst (λ plan. OutOfMemory plan x y a b) (behind_is is)
      (subst (λ plan. OutOfMemory plan x y a b) (told_then (run_fault end text) q next) (out_front (tell_run end text q told) (λ _. Ends next) x y a b h))

-- the line is left to the shell, or its commands come first
abbrev pub after_commands : List ℕ → Outputs → Plan Read
after_commands text = λ ran. Ends (read_with (expanded_line ran.outputs text ran.mind) ran.mind)

pub shell_read : (text : List ℕ) (p : Mind) → needs_shell text p ≡ true → Ends (read_with (line_of_words (shell_words text p.vars) p) p) ≡ read_line text p
shell_read text p e = if_yes (needs_shell text p) (Ends (read_with (line_of_words (shell_words text p.vars) p) p)) (and_then (outputs_of (commands_in Many text) p) (after_commands text)) e

pub commands_first : (text : List ℕ) (p : Mind) → needs_shell text p ≡ false → and_then (outputs_of (commands_in Many text) p) (after_commands text) ≡ read_line text p
commands_first text p e = if_no (needs_shell text p) (Ends (read_with (line_of_words (shell_words text p.vars) p) p)) (and_then (outputs_of (commands_in Many text) p) (after_commands text)) e

-- nothing is told of a program that came to its end
pub nothing_told : (end : RunEnd) (text : List ℕ) (p : Mind) (x : JournalState) (a : View) → None ≡ run_fault end text → Executes (tell_run end text p told) told x x a a
nothing_told end text p x a e = subst (λ f. Executes (tell_maybe f p told) told x x a a) e (executes_nothing told x x a refl)

-- the command was run, and what comes after it
module _ (command : Command) (input text : List ℕ) (p : Mind) where
  pub command_unrun : (x y : JournalState) (a b : View) → input ≡ whole_of p.message → OutOfMemory (ask (Run command input true)) x y a b → OutOfMemory (run_command command text p) x y a b
  command_unrun x y a b e h =
      out_front (ask (Run command (whole_of p.message) true)) (after_run text p) x y a b (subst (λ i. OutOfMemory (ask (Run command i true)) x y a b) e h)

  module _ (reply : Reply) where
    pub command_then : (output : List ℕ) (q : Mind) (x y z : JournalState) (a b c : View) → input ≡ whole_of p.message → Executes (ask (Run command input true)) reply x y a b
        → Executes (after_run text p reply) (output_with output q) y z b c → Executes (run_command command text p) (output_with output q) x z a c
    command_then output q x y z a b c e h k =
        executes_then (ask (Run command (whole_of p.message) true)) (after_run text p) reply (output_with output q) x y z a b c (subst (λ i. Executes (ask (Run command i true)) reply x y a b) e h) k

    pub command_then_out : (x y z : JournalState) (a b c : View) → input ≡ whole_of p.message → Executes (ask (Run command input true)) reply x y a b → OutOfMemory (after_run text p reply) y z b c
        → OutOfMemory (run_command command text p) x z a c
    command_then_out x y z a b c e h k =
        out_then (ask (Run command (whole_of p.message) true)) (after_run text p) reply x y z a b c (subst (λ i. Executes (ask (Run command i true)) reply x y a b) e h) k

-- what is told of a program
pub fault_told : (end : RunEnd) (text fault : List ℕ) (p : Mind) (x y : JournalState) (a b : View) → Some fault ≡ run_fault end text → Executes (log fault p) logged x y a b → Executes (tell_run end text p told) told x y a b
fault_told end text fault p x y a b e h = subst (λ f. Executes (tell_maybe f p told) told x y a b) e (line_told p fault fault told x y a b refl h)

pub fault_untold : (end : RunEnd) (text fault : List ℕ) (p : Mind) (x y : JournalState) (a b : View) → Some fault ≡ run_fault end text → OutOfMemory (log fault p) x y a b → OutOfMemory (tell_run end text p told) x y a b
fault_untold end text fault p x y a b e h = subst (λ f. OutOfMemory (tell_maybe f p told) x y a b) e (line_out p fault fault told x y a b refl h)

-- a command that can't be run was told, and has no output
pub nothing_came : (line shown output : List ℕ) (p q r : Mind) (x y : JournalState) (a b : View) → shown ≡ line → output ≡ [] → r ≡ q → Executes (log shown p) logged x y a b
    → Executes (say_then p line (output_with [] q)) (output_with output r) x y a b
nothing_came line shown output p q r x y a b is none same h =
    let plan = say_then p line (output_with [] q) in
    subst (λ o. Executes plan (output_with o r) x y a b) (sym none)
    (subst (λ m. Executes plan (output_with [] m) x y a b) (sym same) (line_told p line shown (output_with [] q) x y a b is h))
