-- A delivery to mailboxes ends with the locks with which it began.
use Rattle.std.proofs.Common.{ℕ, List, [], ◌∷◌, ◌++◌, Option, Some, None, sym, subst}
use Rattle.std.specs.Prelude.{map, not}
use Rattle.pm_bytes.specs.Name.{is_usable}
use Rattle.pm_bytes.specs.Path.{full_name}
use Rattle.pm_recipe.specs.declared.tree.Flags.{Flags}
use Rattle.pm_subst.specs.Commands.{commands_in}
use Rattle.pm_subst.specs.Words.{words_in}
use Rattle.pm_subst.specs.declared.kinds.Mode.{Mode}
use Rattle.pm_subst.specs.declared.kinds.Mode.TheVariants.{One, Many}
use Rattle.pm_journal.specs.Held.{without}
use Rattle.pm_journal.specs.Plan.{Ends}
use Rattle.pm_journal.specs.declared.acts.Reply.{Reply}
use Rattle.pm_journal.specs.declared.acts.Reply.TheVariants.{Done, IsFolder, Placed, TornAt, NamesOut, Torn, Raced as RacedReply, Held, Now}
use Rattle.pm_journal.specs.declared.placing.FolderKind.{FolderKind}
use Rattle.pm_journal.specs.declared.placing.FolderKind.TheVariants.{Plain}
use Rattle.pm_meaning.specs.Abstracts.{copy_lines}
use Rattle.pm_meaning.specs.Assigning.{value_in}
use Rattle.pm_meaning.specs.Changes.{counted, stored_in}
use Rattle.pm_meaning.specs.Delivering.{Attempted, Ready, folder_piece, mailbox_piece, placed_by, placed_at, in_folder, plain_prefix, in_plain, appended_by, to_file, file_size, file_as, file_one, is_stored, file_all, give_back, under_lock, attempt, attempt_lines, attempt_acted, is_done, settled, after_attempt, file_and_say, deliver_at, deliver_named, is_without, deliver_to, deliver_text, deliver_with, make_ready, deliver, no_flags, deliver_default}
use Rattle.pm_meaning.specs.Destinations.{full_of, destination_of, are_file_texts}
use Rattle.pm_meaning.specs.Locks.{is_nothing, text_or, is_lock_word, lock_word, full_lock, is_taken, any_held, blamed_text, with_lock}
use Rattle.pm_meaning.specs.Minds.{Mind}
use Rattle.pm_meaning.specs.Outputs.{outputs_of}
use Rattle.pm_meaning.specs.Turns.{refuse_act, skip_act, overflow_act, is_too_long}
use Rattle.pm_meaning.specs.declared.acted.Cause.{Cause}
use Rattle.pm_meaning.specs.declared.acted.Cause.TheVariants as cause
use Rattle.pm_meaning.specs.declared.process.Destination.{Destination}
use Rattle.pm_run.proofs.Always.{Always, always_then, always_if, always_said, always_each}
use Rattle.pm_run.proofs.Kept.{Kept, kept_if, AfterAct, AfterAttempt, AfterCommands, AfterFiling, OnceReady}
use Rattle.pm_run.proofs.NamesOnce.{without-front}
use Rattle.pm_run.proofs.KeptOutputs.{kept_outputs}

module _ (K : List (List ℕ) → Option (List ℕ) → Type 0) where
  kept_by : (folder : List ℕ) (size : ℕ) (p : Mind) (reply : Reply) → Kept K p → Kept K (placed_by folder size p reply).mind
  kept_by folder size p (Placed name) h = h
  kept_by folder size p (TornAt name count) h = h
  kept_by folder size p NamesOut h = h
  kept_by folder size p other h = h

  kept_placed : (kind : FolderKind) (folder prefix piece : List ℕ) (p : Mind) (reply : Reply) → Kept K p → Always (AfterFiling K) (placed_at kind folder prefix piece p reply)
  kept_placed kind folder prefix piece p (Now moment) h = λ reply. kept_by folder _ (counted p) reply h
  kept_placed kind folder prefix piece p other h = h

  kept_in_folder : (kind : FolderKind) (folder prefix piece : List ℕ) (p : Mind) → Kept K p → Always (AfterFiling K) (in_folder kind folder prefix piece p)
  kept_in_folder kind folder prefix piece p h = λ reply. kept_placed kind folder prefix piece p reply h

  kept_in_plain : (flags : Flags) (folder : List ℕ) (p : Mind) → Kept K p → Always (AfterFiling K) (in_plain flags folder p)
  kept_in_plain flags folder p h = always_if (AfterFiling K) (is_usable (plain_prefix p)) _ _ (kept_in_folder Plain folder (plain_prefix p) (folder_piece flags p) p h) h

  kept_appended : (flags : Flags) (name : List ℕ) (stored p : Mind) (reply : Reply) → Kept K stored → Kept K p → Always (AfterFiling K) (appended_by flags name stored p reply)
  kept_appended flags name stored p Done h k = h
  kept_appended flags name stored p IsFolder h k = kept_in_plain flags name p k
  kept_appended flags name stored p RacedReply h k = k
  kept_appended flags name stored p (Torn count) h k = k
  kept_appended flags name stored p other h k = k

  kept_file : (flags : Flags) (name piece : List ℕ) (stored p : Mind) → Kept K stored → Kept K p → Always (AfterFiling K) (to_file flags name piece stored p)
  kept_file flags name piece stored p h k = always_if (AfterFiling K) (is_nothing name) _ _ h (λ reply. kept_appended flags name stored p reply h k)

  kept_as : (kind : Option FolderKind) (flags : Flags) (name : List ℕ) (p : Mind) → Kept K p → Always (AfterFiling K) (file_as kind flags name p)
  kept_as None flags name p h =
      kept_file flags (full_name p.base name) (mailbox_piece flags p) (stored_in name (file_size (full_name p.base name) flags p) p) p h h
  kept_as (Some kind) flags name p h = kept_in_folder kind (full_name p.base name) [] (folder_piece flags p) p h

  kept_all : (flags : Flags) (destinations : List Destination) (p : Mind) → Kept K p → Always (AfterFiling K) (file_all flags destinations p)
  kept_all flags [] p h = h
  kept_all flags (destination ∷ destinations) p h =
      always_then (AfterFiling K) (AfterFiling K) (file_one flags destination p) _ (kept_as destination.kind flags destination.name p h)
      (λ filing k. always_if (AfterFiling K) (is_stored filing.filed) (file_all flags destinations filing.mind) (Ends filing) (kept_all flags destinations filing.mind k) k)

-- without the name of a lock file that was taken the locks are those before
pub given_back : (K : List (List ℕ) → Option (List ℕ) → Type 0) (name : List ℕ) (p : Mind) → Kept K p → Kept (λ locks global. K (without locks name) global) (with_lock name p)
given_back K name p h = subst (λ l. K l p.global) (sym (without-front p.locks name)) h

module _ (K : List (List ℕ) → Option (List ℕ) → Type 0) where
  kept_under : (name : List ℕ) (flags : Flags) (destinations : List Destination) (p : Mind) (reply : Reply) → Kept K p → Always (AfterAttempt K) (under_lock name flags destinations p reply)
  kept_under name flags destinations p (Held sleeps forced) h =
      always_then (AfterFiling (λ locks global. K (without locks name) global)) (AfterAttempt K) (file_all flags destinations (with_lock name p)) (give_back name forced)
      (kept_all (λ locks global. K (without locks name) global) flags destinations (with_lock name p) (given_back K name p h)) (λ filing k. λ reply. k)
  kept_under name flags destinations p other h = h

  kept_attempt : (lock : Option (List ℕ)) (flags : Flags) (destinations : List Destination) (p : Mind) → Kept K p → Always (AfterAttempt K) (attempt lock flags destinations p)
  kept_attempt None flags destinations p h =
      always_then (AfterFiling K) (AfterAttempt K) (file_all flags destinations p) _ (kept_all K flags destinations p h) (λ filing k. k)
  kept_attempt (Some name) flags destinations p h = λ reply. kept_under name flags destinations p reply h

  kept_after : (flags : Flags) (text : List ℕ) (done : Attempted) → Kept K done.mind → Always (AfterAct K) (after_attempt flags text done)
  kept_after flags text done h =
      let q = settled done.attempt done.mind in
      always_each (AfterAct K) q (attempt_lines text done.attempt ++ copy_lines (is_done done.attempt) flags q) (record { acted = attempt_acted flags done.attempt; mind = q })
      (kept_if K (is_done done.attempt) _ _ h h)

  kept_filed : (flags : Flags) (lock : Option (List ℕ)) (text : List ℕ) (destinations : List Destination) (p : Mind) → Kept K p → Always (AfterAct K) (file_and_say flags lock text destinations p)
  kept_filed flags lock text destinations p h =
      always_then (AfterAttempt K) (AfterAct K) (attempt lock flags destinations p) (after_attempt flags text) (kept_attempt lock flags destinations p h)
      (λ done k. kept_after flags text done k)

  pub kept_refused : (cause : Cause) (text : List ℕ) (p : Mind) → Kept K p → Always (AfterAct K) (refuse_act cause text p)
  kept_refused cause text p h = always_said (AfterAct K) p _ _ h

  pub kept_overflow : (size : ℕ) (p : Mind) → Kept K p → Always (AfterAct K) (overflow_act size p)
  kept_overflow size p h = always_said (AfterAct K) p _ _ h

  pub kept_skipped : (mode : Mode) (text : List ℕ) (outputs : List (List ℕ)) (p : Mind) → Kept K p → Always (AfterAct K) (skip_act mode text outputs p)
  kept_skipped mode text outputs p h = always_said (AfterAct K) p _ _ h

  kept_at : (flags : Flags) (lock : Option (List ℕ)) (blamed text : List ℕ) (destinations : List Destination) (p : Mind) → Kept K p → Always (AfterAct K) (deliver_at flags lock blamed text destinations p)
  kept_at flags lock blamed text destinations p h =
      always_if (AfterAct K) (is_taken lock (map (full_of p.base) destinations) p.locks) (refuse_act cause.NameIsLock blamed p) _ (kept_refused cause.NameIsLock blamed p h)
      (always_if (AfterAct K) (any_held (map (full_of p.base) destinations) p.locks) (refuse_act cause.NameIsLock text p) _ (kept_refused cause.NameIsLock text p h)
      (kept_filed flags lock text destinations p h))

  kept_named : (flags : Flags) (word : Option (List ℕ)) (blamed text : List ℕ) (words : List (List ℕ)) (p : Mind) → Kept K p → Always (AfterAct K) (deliver_named flags word blamed text words p)
  kept_named flags word blamed text words p h =
      always_if (AfterAct K) (not (are_file_texts words)) (refuse_act cause.BadName text p) _ (kept_refused cause.BadName text p h)
      (kept_at flags (full_lock p.base word) blamed text (map destination_of words) p h)

  kept_to : (flags : Flags) (lock : Option (List ℕ)) (value text : List ℕ) (words : List (List ℕ)) (p : Mind) → Kept K p → Always (AfterAct K) (deliver_to flags lock value text words p)
  kept_to flags lock value text words p h =
      always_if (AfterAct K) (is_without words) (refuse_act cause.NoWords text p) _ (kept_refused cause.NoWords text p h)
      (always_if (AfterAct K) (not (is_lock_word (lock_word lock value words p))) (refuse_act cause.BadName (blamed_text lock text) p) _
      (kept_refused cause.BadName (blamed_text lock text) p h) (kept_named flags (lock_word lock value words p) (blamed_text lock text) text words p h))

  kept_text : (flags : Flags) (lock : Option (List ℕ)) (value text : List ℕ) (outputs : List (List ℕ)) (p : Mind) → Kept K p → Always (AfterAct K) (deliver_text flags lock value text outputs p)
  kept_text flags lock value text outputs p h =
      always_if (AfterAct K) (is_too_long Many text p.vars outputs) (skip_act Many text outputs p) _ (kept_skipped Many text outputs p h)
      (kept_to flags lock value text (words_in Many p.vars outputs text) p h)

  kept_with : (flags : Flags) (lock : Option (List ℕ)) (text : List ℕ) (ready : Ready) → Kept K ready.mind → Always (AfterAct K) (deliver_with flags lock text ready)
  kept_with flags lock text ready h =
      always_if (AfterAct K) (is_too_long One (text_or [] lock) ready.mind.vars ready.lock_outputs) (skip_act One (text_or [] lock) ready.lock_outputs ready.mind) _
      (kept_skipped One (text_or [] lock) ready.lock_outputs ready.mind h) (kept_text flags lock (value_in ready.mind.vars ready.lock_outputs (text_or [] lock)) text ready.outputs ready.mind h)

  pub kept_ready : (lock_commands commands : List (List ℕ)) (p : Mind) → Kept K p → Always (OnceReady K) (make_ready lock_commands commands p)
  kept_ready lock_commands commands p h =
      always_then (AfterCommands K) (OnceReady K) (outputs_of lock_commands p) _ (kept_outputs K lock_commands p h)
      (λ first k. always_then (AfterCommands K) (OnceReady K) (outputs_of commands first.mind) _ (kept_outputs K commands first.mind k) (λ second l. l))

  -- an action that delivers to mailboxes
  pub kept_deliver : (flags : Flags) (lock : Option (List ℕ)) (text : List ℕ) (p : Mind) → Kept K p → Always (AfterAct K) (deliver flags lock text p)
  kept_deliver flags lock text p h =
      always_then (OnceReady K) (AfterAct K) (make_ready (commands_in One (text_or [] lock)) (commands_in Many text) p) _
      (kept_ready (commands_in One (text_or [] lock)) (commands_in Many text) p h) (λ ready k. kept_with flags lock text ready k)

  -- a delivery to a default mailbox
  pub kept_default : (mailbox : List ℕ) (p : Mind) → Kept K p → Always (AfterAct K) (deliver_default mailbox p)
  kept_default mailbox p h = kept_to no_flags (Some []) [] mailbox (mailbox ∷ []) p h
