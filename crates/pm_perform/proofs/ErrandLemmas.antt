-- Errands that were done, in plans.
use Rattle.std.proofs.Common.{◌≡◌, Bool, true, false, List, ℕ, length, refl, sym, ap, ◌∙◌, subst}
use Rattle.std.specs.Prelude.{codes, if◌then◌else◌}
use Rattle.pm_journal.specs.Sayings.{say_reply}
use Rattle.pm_journal.specs.declared.saying.WriteEnd.{WriteEnd}
use Rattle.pm_host.specs.declared.command.Command.{Command}
use Rattle.pm_recipe.specs.declared.tree.Flags.{Flags}
use Rattle.pm_journal.specs.JournalState.{JournalState}
use Rattle.pm_journal.specs.Entries.{View}
use Rattle.pm_journal.specs.Noted.{NotesAct}
use Rattle.pm_journal.specs.Outcomes.{run_end}
use Rattle.pm_journal.specs.Plan.{Ends, and_then, ask}
use Rattle.pm_journal.specs.Executed.{Executes}
use Rattle.pm_journal.specs.declared.acts.Act.{Act}
use Rattle.pm_journal.specs.declared.acts.Act.TheVariants.{Run, WriteOut}
use Rattle.pm_journal.specs.declared.acts.Reply.{Reply}
use Rattle.pm_journal.specs.declared.children.RunEnd.{RunEnd}
use Rattle.pm_journal.proofs.ActPlans.{act_executes, executes_then}
use Rattle.pm_journal.proofs.WantsMemory.{executes_nothing}
use Rattle.pm_journal.specs.Acts.{NotesRun}
use Rattle.pm_meaning.specs.Changes.{stored_in}
use Rattle.pm_meaning.specs.Minds.{Mind}
use Rattle.pm_meaning.specs.ProgramActions.{Tried, is_fine, feed_outcome, fed, feed, write_outcome, write}
use Rattle.pm_meaning.specs.Programs.{code_of, with_exit_code}
use Rattle.pm_meaning.specs.declared.process.Outcome.{Outcome}
use Rattle.pm_perform.specs.Copies.{remembered, with_kept}
use Rattle.pm_perform.specs.Errands.{tried_of, kept_if}
use Rattle.pm_perform.specs.declared.kept.Kept.{Kept}

-- an act, and then this end
acted : {R : Type 0} (act : Act) (f : Reply → R) (reply : Reply) (end : R) (x y : JournalState) (a b : View) → NotesAct act reply x y a b → end ≡ f reply → Executes (and_then (ask act) (λ r. Ends (f r))) end x y a b
acted act f reply end x y a b n e =
    executes_then (ask act) (λ r. Ends (f r)) reply end x y y a b b (act_executes act reply x y a b n)
    (subst (λ d. Executes (Ends (f reply)) d y y b b) (sym e) (executes_nothing (f reply) y y b refl))

kept_then_code : (b : Bool) (folder : List ℕ) (size code : ℕ) (p : Mind)
    → with_exit_code code (if b then with_kept (remembered folder size) p else p) ≡ (if b then stored_in folder size (with_exit_code code p) else with_exit_code code p)
kept_then_code true folder size code p = refl
kept_then_code false folder size code p = refl

kept_alone : (b : Bool) (folder : List ℕ) (size : ℕ) (p : Mind) → (if b then with_kept (remembered folder size) p else p) ≡ (if b then stored_in folder size p else p)
kept_alone true folder size p = refl
kept_alone false folder size p = refl

-- a program was fed
pub was_fed : (flags : Flags) (folder : List ℕ) (command : Command) (input : List ℕ) (count : ℕ) (kept : Kept) (end : RunEnd) (outcome : Outcome) (p q r : Mind) (x y : JournalState) (a b : View) → count ≡ length input
    → kept ≡ remembered folder (length input) → NotesRun command input false end x y a b → outcome ≡ feed_outcome flags count end → q ≡ kept_if outcome kept p → r ≡ with_exit_code (code_of end) q
    → Executes (feed flags folder command input p) (tried_of outcome r) x y a b
was_fed flags folder command input count kept end outcome p q r x y a b len is n came keeps codes_it =
    let o = feed_outcome flags (length input) end in
    let same : outcome ≡ o = came ∙ ap (λ l. feed_outcome flags l end) len in
    let mind : r ≡ with_exit_code (code_of end) (kept_if o (remembered folder (length input)) p) =
    codes_it ∙ ap (with_exit_code (code_of end)) (keeps ∙ ap (λ u. kept_if u kept p) same ∙ ap (λ k. kept_if o k p) is) in
    let all : tried_of outcome r ≡ fed flags folder (length input) end p =
    ap (λ u. tried_of u r) same ∙ ap (tried_of o) (mind ∙ kept_then_code (is_fine o) folder (length input) (code_of end) p) in
    acted (Run command input false) (λ reply. fed flags folder (length input) (run_end reply) p) n.reply (tried_of outcome r) x y a b n.notes (all ∙ ap (λ e. fed flags folder (length input) e p) n.end_is)

-- a piece was written
pub was_written : (piece : List ℕ) (kept : Kept) (end : WriteEnd) (outcome : Outcome) (p q : Mind) (x y : JournalState) (a b : View) → kept ≡ remembered (codes "|") (length piece)
    → NotesAct (WriteOut piece) (say_reply end) x y a b → outcome ≡ write_outcome (say_reply end) → q ≡ kept_if outcome kept p → Executes (write piece p) (tried_of outcome q) x y a b
was_written piece kept end outcome p q x y a b is n came keeps =
    let o = write_outcome (say_reply end) in
    let f : Reply → Tried = λ reply. record { outcome = write_outcome reply; mind = if is_fine (write_outcome reply) then stored_in (codes "|") (length piece) p else p } in
    let all : tried_of outcome q ≡ f (say_reply end) =
    ap (λ u. tried_of u q) came ∙ ap (tried_of o) (keeps ∙ ap (λ u. kept_if u kept p) came ∙ ap (λ k. kept_if o k p) is ∙ kept_alone (is_fine o) (codes "|") (length piece) p) in
    acted (WriteOut piece) f (say_reply end) (tried_of outcome q) x y a b n all
