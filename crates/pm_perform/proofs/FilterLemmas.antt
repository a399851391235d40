-- Filters and captures that were run, in plans.
use Rattle.std.proofs.Common.{◌≡◌, true, List, ℕ, [], length, Option, Result, Ok, Err, IfOk, sym, ap, ◌∙◌}
use Rattle.pm_bytes.specs.declared.error.Memory.{Memory}
use Rattle.pm_host.specs.declared.command.Command.{Command}
use Rattle.pm_recipe.specs.declared.tree.Flags.{Flags}
use Rattle.pm_journal.specs.JournalState.{JournalState}
use Rattle.pm_journal.specs.Entries.{View}
use Rattle.pm_journal.specs.Outcomes.{run_end, output_in}
use Rattle.pm_journal.specs.Plan.{Ends, ask}
use Rattle.pm_journal.specs.Executed.{Executes, OutOfMemory, Carries}
use Rattle.pm_journal.specs.declared.acts.Act.TheVariants.{Run}
use Rattle.pm_journal.specs.declared.acts.Reply.{Reply}
use Rattle.pm_journal.specs.declared.children.RunEnd.{RunEnd}
use Rattle.pm_journal.proofs.WantsMemory.{out_front}
use Rattle.pm_meaning.specs.Delivering.{feed_of}
use Rattle.pm_meaning.specs.Locks.{text_or}
use Rattle.pm_meaning.specs.Minds.{Mind}
use Rattle.pm_meaning.specs.ProgramActions.{Tried, feed_outcome, end_outcome, unless_too_long, refilled, mail_if, filtered, filter_mail, unless_overflow, captured_in, captured, capture}
use Rattle.pm_meaning.specs.Programs.{code_of, with_exit_code}
use Rattle.pm_meaning.specs.declared.process.Outcome.{Outcome}
use Rattle.pm_perform.specs.Errands.{tried_of}
use Rattle.pm_meaning.proofs.Sequences.{then_carries, known_carries}

-- what holds of an answer by two facts
both_map : {T E : Type 0} (r : Result T E) (P Q R : T → Type 0) → ((x : T) → P x → Q x → R x) → IfOk r P → IfOk r Q → IfOk r R
both_map (Ok x) P Q R f h k = f x h k
both_map (Err e) P Q R f h k = tt

module _ (flags : Flags) (command : Command) (input : List ℕ) (p : Mind) (x y : JournalState) (a b : View) where
  -- memory was wanting before a filter's run
  pub filter_unrun : OutOfMemory (ask (Run command input true)) x y a b → OutOfMemory (filter_mail flags command input p) x y a b
  filter_unrun h = out_front (ask (Run command input true)) (λ reply. Ends (filtered flags (length input) reply p)) x y a b h

  pub capture_unrun : (name : List ℕ) → OutOfMemory (ask (Run command input true)) x y a b → OutOfMemory (capture flags name command input p) x y a b
  capture_unrun name h = out_front (ask (Run command input true)) (λ reply. Ends (captured flags name reply p)) x y a b h

  -- the end, the output and the process after a run are those of its reply
  pub record IsBehind (reply : Reply) (end : RunEnd) (came : Option (List ℕ)) (q : Mind) : Type 0 where
    pub end_is : end ≡ run_end reply
    pub output_is : came ≡ output_in reply
    pub mind_is : q ≡ with_exit_code (code_of end) p

  -- the mail with the output of a filter in its place, and what comes of it
  abbrev tried_mail : Outcome → List ℕ → Mind → Tried
  tried_mail outcome mail q = tried_of outcome (mail_if outcome mail q)

  abbrev tried_output : Outcome → List ℕ → Mind → Tried
  tried_output fed output q =
      let mail = refilled (feed_of flags) output q.message in tried_mail (unless_too_long fed (length mail)) mail q

  abbrev tried_filter : ℕ → RunEnd → Option (List ℕ) → Mind → Tried
  tried_filter count end came q = tried_output (feed_outcome flags count end) (text_or [] came) q

  filter_is : (reply : Reply) (count : ℕ) (end : RunEnd) (came : Option (List ℕ)) (q : Mind) → IsBehind reply end came q → count ≡ length input → filtered flags (length input) reply p ≡ tried_filter count end came q
  filter_is reply count end came q is len =
      sym (
      ap (λ m. tried_filter count end came m) is.mind_is
      ∙ ap (λ n. tried_filter n end came (with_exit_code (code_of end) p)) len
      ∙ ap (λ o. tried_filter (length input) end o (with_exit_code (code_of end) p)) is.output_is
      ∙ ap (λ e. tried_filter (length input) e (output_in reply) (with_exit_code (code_of e) p)) is.end_is
      )

  -- a filter was run, and its output taken
  pub was_filtered : (reply : Reply) (count : ℕ) (end : RunEnd) (fed : Outcome) (came : Option (List ℕ)) (output : List ℕ) (q r : Mind) (answer : Result Outcome Memory) → IsBehind reply end came q → count ≡ length input
      → fed ≡ feed_outcome flags count end → output ≡ text_or [] came → Executes (ask (Run command input true)) reply x y a b
      → IfOk answer (λ o. o ≡ unless_too_long fed (length (refilled (feed_of flags) output q.message))) → IfOk answer (λ o. r ≡ mail_if o (refilled (feed_of flags) output q.message) q)
      → Carries (filter_mail flags command input p) (λ o. tried_of o r) answer x y a b
  was_filtered reply count end fed came output q r answer is len fed_is output_is ran outcome mind =
      let mail = refilled (feed_of flags) output q.message in
      let whole : filtered flags (length input) reply p ≡ tried_output fed output q =
      filter_is reply count end came q is len ∙ ap (λ o. tried_output o (text_or [] came) q) (sym fed_is) ∙ ap (λ t. tried_output fed t q) (sym output_is) in
      then_carries (ask (Run command input true)) (λ e. Ends (filtered flags (length input) e p)) reply (λ o. tried_of o r) answer x y y a b b ran
      (known_carries (filtered flags (length input) reply p) (λ o. tried_of o r) answer y b
      (both_map answer _ _ (λ o. filtered flags (length input) reply p ≡ tried_of o r)
      (λ o e m. whole ∙ ap (λ u. tried_mail u mail q) (sym e) ∙ ap (tried_of o) (sym m)) outcome mind))

  -- the value of a capture's variable, and what comes of it
  abbrev tried_value : List ℕ → Outcome → List ℕ → Mind → Tried
  tried_value name outcome output q = tried_of outcome (captured_in name output outcome q)

  abbrev tried_capture : List ℕ → RunEnd → List ℕ → Mind → Tried
  tried_capture name end output q = tried_value name (unless_overflow (end_outcome flags end) (length output)) output q

  capture_is : (name : List ℕ) (reply : Reply) (end : RunEnd) (came : Option (List ℕ)) (q : Mind) → IsBehind reply end came q → captured flags name reply p ≡ tried_capture name end (text_or [] came) q
  capture_is name reply end came q is =
      sym (
      ap (λ m. tried_capture name end (text_or [] came) m) is.mind_is
      ∙ ap (λ o. tried_capture name end (text_or [] o) (with_exit_code (code_of end) p)) is.output_is
      ∙ ap (λ e. tried_capture name e (text_or [] (output_in reply)) (with_exit_code (code_of e) p)) is.end_is
      )

  -- a capture was run, and its output taken
  pub was_captured : (name : List ℕ) (reply : Reply) (end : RunEnd) (came : Option (List ℕ)) (shown output : List ℕ) (q r : Mind) (answer : Result Outcome Memory) → IsBehind reply end came q → shown ≡ name → output ≡ text_or [] came
      → Executes (ask (Run command input true)) reply x y a b → IfOk answer (λ o. o ≡ unless_overflow (end_outcome flags end) (length output)) → IfOk answer (λ o. r ≡ captured_in shown output o q)
      → Carries (capture flags name command input p) (λ o. tried_of o r) answer x y a b
  was_captured name reply end came shown output q r answer is same output_is ran outcome mind =
      let whole : captured flags name reply p ≡ tried_capture shown end output q =
      capture_is name reply end came q is ∙ ap (λ t. tried_capture name end t q) (sym output_is) ∙ ap (λ n. tried_capture n end output q) (sym same) in
      then_carries (ask (Run command input true)) (λ e. Ends (captured flags name e p)) reply (λ o. tried_of o r) answer x y y a b b ran
      (known_carries (captured flags name reply p) (λ o. tried_of o r) answer y b
      (both_map answer _ _ (λ o. captured flags name reply p ≡ tried_of o r)
      (λ o e m. whole ∙ ap (λ u. tried_value shown u output q) (sym e) ∙ ap (tried_of o) (sym m)) outcome mind))
