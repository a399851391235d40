-- What statements make of the locks that a process holds.
use Rattle.std.proofs.Common.{◌≡◌, ℕ, false, List, Option, Some, None, refl, sym, subst}
use Rattle.std.specs.Prelude.{not, nat_lt, codes, bytes_eq}
use Rattle.pm_bytes.specs.Path.{full_name}
use Rattle.pm_bytes.specs.declared.environment.Pair.{Pair}
use Rattle.pm_host.specs.declared.answers.Looked.TheVariants.{Folder}
use Rattle.pm_recipe.specs.Tree.{Top, Act, Block, Tree, Assign, Unset, Recipe, Defect}
use Rattle.pm_subst.specs.Commands.{commands_in}
use Rattle.pm_subst.specs.declared.kinds.Mode.TheVariants.{One}
use Rattle.pm_journal.specs.Held.{holds_name}
use Rattle.pm_journal.specs.LogText.{couldnt_chdir_line, unusable_name_line, host_mismatched_line, couldnt_lock_line, forcing_lock_line, couldnt_unlock_line, no_lock_line, skipped_line}
use Rattle.pm_journal.specs.Locking.{lock_act}
use Rattle.pm_journal.specs.Plan.{Ends, and_then, ask}
use Rattle.pm_journal.specs.declared.acts.Act.TheVariants.{Probe}
use Rattle.pm_journal.specs.declared.acts.Reply.{Reply}
use Rattle.pm_journal.specs.declared.acts.Reply.TheVariants.{Found, Held}
use Rattle.pm_meaning.specs.Acting.{act_on, acted_turn, turn_after, acting}
use Rattle.pm_meaning.specs.Assigning.{value_in, probed, change_folder, include_rcfile, switch_rcfile, change_host, change_rcfile, shift_arguments, change_other, assigned, assign_with, assign, unset}
use Rattle.pm_meaning.specs.Blocks.{got_block_lock, lock_block, enter_with, enter_under, enter, carry_out, without_lock, give_maybe}
use Rattle.pm_meaning.specs.Changes.{with_variable, without_variable, overflowed}
use Rattle.pm_meaning.specs.GlobalLock.{with_global, without_global, after_giving, give_named, drop_lock, got_lock, take_lock, change_lock}
use Rattle.pm_meaning.specs.Locks.{is_fault, rule_of, with_lock}
use Rattle.pm_meaning.specs.Minds.{Mind}
use Rattle.pm_meaning.specs.Outputs.{outputs_of}
use Rattle.pm_meaning.specs.Running.{statement, set_by_word, mind_in}
use Rattle.pm_meaning.specs.Texts.{is_empty, is_file_text}
use Rattle.pm_meaning.specs.Turns.{Turn, GoesOn, Halts, Enters, Includes, Switches, EndsFile, Clones, say_then, refuse_name, is_too_long, skip_value}
use Rattle.pm_meaning.specs.declared.acted.Acted.{Acted}
use Rattle.pm_meaning.specs.declared.acted.Acted.TheVariants.{Delivered}
use Rattle.pm_meaning.specs.declared.process.End.TheVariants.{HostOff}
use Rattle.pm_run.specs.HeldLocks.{named, HeldAre}
use Rattle.pm_run.proofs.Always.{Always, always_then, always_if, always_yes, always_by, always_so, always_said}
use Rattle.pm_run.proofs.Kept.{Kept, AfterAct, AfterCommands}
use Rattle.pm_run.proofs.NamesOnce.{took_global, gave_global, took_block, block_held, gave_block}
use Rattle.pm_run.proofs.KeptOutputs.{kept_outputs}
use Rattle.pm_run.proofs.KeptPrograms.{kept_act}
use Rattle.pm_run.proofs.KeptConditions.{kept_first}

-- after this turn, which enters no block, the locks are LOCKFILE's and these
abbrev pub Stays : List (List ℕ) → Turn → Type 0
Stays blocks (GoesOn p) = HeldAre blocks p.locks p.global
Stays blocks (Halts end p) = HeldAre blocks p.locks p.global
Stays blocks (Enters lock p) = ⊥
Stays blocks (Includes name p) = HeldAre blocks p.locks p.global
Stays blocks (Switches name p) = HeldAre blocks p.locks p.global
Stays blocks (EndsFile p) = HeldAre blocks p.locks p.global
Stays blocks (Clones p) = HeldAre blocks p.locks p.global

-- after this turn they are LOCKFILE's and these, with that of a block that was entered
abbrev pub Comes : List (List ℕ) → Turn → Type 0
Comes blocks (GoesOn p) = HeldAre blocks p.locks p.global
Comes blocks (Halts end p) = HeldAre blocks p.locks p.global
Comes blocks (Enters lock p) = HeldAre (named lock blocks) p.locks p.global
Comes blocks (Includes name p) = HeldAre blocks p.locks p.global
Comes blocks (Switches name p) = HeldAre blocks p.locks p.global
Comes blocks (EndsFile p) = HeldAre blocks p.locks p.global
Comes blocks (Clones p) = HeldAre blocks p.locks p.global

-- LOCKFILE has no lock, and the locks are these
abbrev Unnamed : List (List ℕ) → Mind → Type 0
Unnamed blocks p = HeldAre blocks p.locks None × (p.global ≡ None)

module _ (blocks : List (List ℕ)) where
  stays_comes : (turn : Turn) → Stays blocks turn → Comes blocks turn
  stays_comes (GoesOn p) h = h
  stays_comes (Halts end p) h = h
  stays_comes (Enters lock p) h = absurd h
  stays_comes (Includes name p) h = h
  stays_comes (Switches name p) h = h
  stays_comes (EndsFile p) h = h
  stays_comes (Clones p) h = h

  stays_in : (turn : Turn) → Stays blocks turn → HeldAre blocks (mind_in turn).locks (mind_in turn).global
  stays_in (GoesOn p) h = h
  stays_in (Halts end p) h = h
  stays_in (Enters lock p) h = absurd h
  stays_in (Includes name p) h = h
  stays_in (Switches name p) h = h
  stays_in (EndsFile p) h = h
  stays_in (Clones p) h = h

  -- that a lock file wasn't removed changes nothing about what is held
  after_gone : (P : Mind → Type 0) (name : List ℕ) (p : Mind) (reply : Reply) → P p → Always P (after_giving name p reply)
  after_gone P name p reply h = always_if P (is_fault reply) _ _ (always_said P p (couldnt_unlock_line name) p h) h

  -- LOCKFILE's lock is given back
  kept_given_by : (global : Option (List ℕ)) (p : Mind) → p.global ≡ global → HeldAre blocks p.locks global → Always (Unnamed blocks) (give_named global p)
  kept_given_by None p e h = (h, e)
  kept_given_by (Some name) p e h =
      always_yes (Unnamed blocks) (holds_name p.locks name) _ _ h.held (λ reply. after_gone (Unnamed blocks) name (without_global name p) reply (gave_global blocks p.locks name h, refl))

  pub kept_given : (p : Mind) → Kept (HeldAre blocks) p → Always (Unnamed blocks) (give_named p.global p)
  kept_given p h = kept_given_by p.global p refl h

  unnamed_kept : (p : Mind) → Unnamed blocks p → Kept (HeldAre blocks) p
  unnamed_kept p h = subst (λ global. HeldAre blocks p.locks global) (sym h.1) h.0

  kept_dropped : (p : Mind) → Kept (HeldAre blocks) p → Always (Stays blocks) (drop_lock p)
  kept_dropped p h = always_then (Unnamed blocks) (Stays blocks) (give_named p.global p) _ (kept_given p h) (λ q k. unnamed_kept q k)

  kept_got : (name : List ℕ) (p : Mind) (reply : Reply) → holds_name p.locks name ≡ false → Unnamed blocks p → Always (Stays blocks) (got_lock name p reply)
  kept_got name p (Held sleeps forced) free h =
      let got = took_global blocks p.locks name free h.0 in
      always_if (Stays blocks) (nat_lt 0 forced) _ _ (always_said (Stays blocks) (with_global name p) (forcing_lock_line name) (GoesOn (with_global name p)) got) got
  kept_got name p other free h = always_said (Stays blocks) p (couldnt_lock_line name) (GoesOn p) (unnamed_kept p h)

  kept_taken : (value : List ℕ) (p : Mind) → Unnamed blocks p → Always (Stays blocks) (take_lock value p)
  kept_taken value p h =
      let name = full_name p.base value in
      always_by (Stays blocks) (holds_name p.locks name) (refuse_name value p) (and_then (ask (lock_act name (rule_of p.vars))) (got_lock name p))
      (λ held. always_said (Stays blocks) p (unusable_name_line value) (GoesOn p) (unnamed_kept p h)) (λ free. λ reply. kept_got name p reply free h)

  kept_refused : (text : List ℕ) (p : Mind) → Kept (HeldAre blocks) p → Always (Stays blocks) (refuse_name text p)
  kept_refused text p h = always_said (Stays blocks) p (unusable_name_line text) (GoesOn p) h

  kept_locked : (value : List ℕ) (p : Mind) → Kept (HeldAre blocks) p → Always (Stays blocks) (change_lock value p)
  kept_locked value p h =
      always_if (Stays blocks) (is_empty value) (drop_lock p) _ (kept_dropped p h)
      (always_if (Stays blocks) (is_file_text value) (and_then (give_named p.global p) (take_lock value)) (refuse_name value p)
      (always_then (Unnamed blocks) (Stays blocks) (give_named p.global p) (take_lock value) (kept_given p h) (λ q k. kept_taken value q k)) (kept_refused value p h))

  kept_probed : (name : List ℕ) (p : Mind) (reply : Reply) → Kept (HeldAre blocks) p → Always (Stays blocks) (probed name p reply)
  kept_probed name p (Found Folder) h = h
  kept_probed name p other h = always_said (Stays blocks) p (couldnt_chdir_line name) (GoesOn p) h

  kept_folder : (value : List ℕ) (p : Mind) → Kept (HeldAre blocks) p → Always (Stays blocks) (change_folder value p)
  kept_folder value p h =
      let name = full_name p.base value in
      always_if (Stays blocks) (is_file_text value) (and_then (ask (Probe name)) (probed name p)) (say_then p (unusable_name_line value) (GoesOn p))
      (λ reply. kept_probed name p reply h) (kept_refused value p h)

  kept_included : (value : List ℕ) (p : Mind) → Kept (HeldAre blocks) p → Always (Stays blocks) (include_rcfile value p)
  kept_included value p h =
      always_if (Stays blocks) (is_empty value) (Ends (GoesOn p)) _ h
      (always_if (Stays blocks) (is_file_text value) (Ends (Includes (full_name p.base value) p)) (refuse_name value p) h (kept_refused value p h))

  kept_switched : (value : List ℕ) (p : Mind) → Kept (HeldAre blocks) p → Always (Stays blocks) (switch_rcfile value p)
  kept_switched value p h =
      always_if (Stays blocks) (is_empty value) (Ends (EndsFile p)) _ h
      (always_if (Stays blocks) (is_file_text value) (Ends (Switches (full_name p.base value) p)) (refuse_name value p) h (kept_refused value p h))

  kept_host : (value : List ℕ) (p : Mind) → Kept (HeldAre blocks) p → Always (Stays blocks) (change_host value p)
  kept_host value p h =
      always_if (Stays blocks) (bytes_eq value p.host_name) (Ends (GoesOn p)) _ h (always_said (Stays blocks) p (host_mismatched_line value) (Halts HostOff p) h)

  kept_rcfile : (name value : List ℕ) (p : Mind) → Kept (HeldAre blocks) p → Always (Stays blocks) (change_rcfile name value p)
  kept_rcfile name value p h =
      always_if (Stays blocks) (bytes_eq name (codes "INCLUDERC")) (include_rcfile value p) _ (kept_included value p h)
      (always_if (Stays blocks) (bytes_eq name (codes "SWITCHRC")) (switch_rcfile value p) _ (kept_switched value p h)
      (always_if (Stays blocks) (bytes_eq name (codes "HOST")) (change_host value p) (Ends (GoesOn p)) (kept_host value p h) h))

  kept_other : (name value : List ℕ) (p : Mind) → Kept (HeldAre blocks) p → Always (Stays blocks) (change_other name value p)
  kept_other name value p h =
      always_if (Stays blocks) (bytes_eq name (codes "LOG")) (say_then p value (GoesOn p)) _ (always_said (Stays blocks) p value (GoesOn p) h)
      (always_if (Stays blocks) (bytes_eq name (codes "SHIFT")) (Ends (GoesOn (shift_arguments value p))) (change_rcfile name value p) h (kept_rcfile name value p h))

  kept_assigned : (name value : List ℕ) (p : Mind) → Kept (HeldAre blocks) p → Always (Stays blocks) (assigned name value p)
  kept_assigned name value p h =
      let q = with_variable name value p in
      always_if (Stays blocks) (bytes_eq name (codes "MAILDIR")) (change_folder value q) _ (kept_folder value q h)
      (always_if (Stays blocks) (bytes_eq name (codes "LOCKFILE")) (change_lock value q) (change_other name value q) (kept_locked value q h) (kept_other name value q h))

  kept_skipped : (text : List ℕ) (outputs : List (List ℕ)) (p : Mind) → Kept (HeldAre blocks) p → Always (Stays blocks) (skip_value One text outputs p)
  kept_skipped text outputs p h = always_said (Stays blocks) p _ (GoesOn (overflowed p)) h

  kept_assigned_with : (name text : List ℕ) (outputs : List (List ℕ)) (p : Mind) → Kept (HeldAre blocks) p → Always (Stays blocks) (assign_with name text outputs p)
  kept_assigned_with name text outputs p h =
      always_if (Stays blocks) (is_too_long One text p.vars outputs) (skip_value One text outputs p) (assigned name (value_in p.vars outputs text) p)
      (kept_skipped text outputs p h) (kept_assigned name (value_in p.vars outputs text) p h)

  kept_assign : (name text : List ℕ) (p : Mind) → Kept (HeldAre blocks) p → Always (Stays blocks) (assign name text p)
  kept_assign name text p h =
      always_then (AfterCommands (HeldAre blocks)) (Stays blocks) (outputs_of (commands_in One text) p) _ (kept_outputs (HeldAre blocks) (commands_in One text) p h)
      (λ ran k. kept_assigned_with name text ran.outputs ran.mind k)

  kept_unset : (name : List ℕ) (p : Mind) → Kept (HeldAre blocks) p → Always (Stays blocks) (unset name p)
  kept_unset name p h =
      let q = without_variable name p in
      always_if (Stays blocks) (bytes_eq name (codes "SWITCHRC")) (Ends (EndsFile q)) _ h
      (always_if (Stays blocks) (bytes_eq name (codes "LOCKFILE")) (drop_lock q) (Ends (GoesOn q)) (kept_dropped q h) h)

  -- a word of the command line that sets a variable
  pub kept_word : (pair : Pair) (p : Mind) → Kept (HeldAre blocks) p → Always (λ (turn : Turn). Kept (HeldAre blocks) (mind_in turn)) (set_by_word pair p)
  kept_word pair p h =
      always_if (λ (turn : Turn). Kept (HeldAre blocks) (mind_in turn)) _ (Ends (GoesOn p)) _ h
      (always_if (λ (turn : Turn). Kept (HeldAre blocks) (mind_in turn)) (bytes_eq pair.name (codes "HOST")) (Ends (GoesOn (with_variable pair.name pair.value p))) (assigned pair.name pair.value p) h
      (always_so (Stays blocks) (λ (turn : Turn). Kept (HeldAre blocks) (mind_in turn)) (assigned pair.name pair.value p) stays_in (kept_assigned pair.name pair.value p h)))

  kept_block_got : (name : List ℕ) (p : Mind) (reply : Reply) → holds_name p.locks name ≡ false → Kept (HeldAre blocks) p → Always (Comes blocks) (got_block_lock name p reply)
  kept_block_got name p (Held sleeps forced) free h =
      let got = took_block blocks p.locks name p.global free h in
      always_if (Comes blocks) (nat_lt 0 forced) _ _ (always_said (Comes blocks) (with_lock name p) (forcing_lock_line name) (Enters (Some name) (with_lock name p)) got) got
  kept_block_got name p other free h = always_said (Comes blocks) p (couldnt_lock_line name) (GoesOn p) h

  kept_block_lock : (text value : List ℕ) (p : Mind) → Kept (HeldAre blocks) p → Always (Comes blocks) (lock_block text value p)
  kept_block_lock text value p h =
      let name = full_name p.base value in
      always_if (Comes blocks) (not (is_file_text value)) (refuse_name text p) _ (always_said (Comes blocks) p (unusable_name_line text) (GoesOn p) h)
      (always_by (Comes blocks) (holds_name p.locks name) (refuse_name text p) (and_then (ask (lock_act name (rule_of p.vars))) (got_block_lock name p))
      (λ held. always_said (Comes blocks) p (unusable_name_line text) (GoesOn p) h) (λ free. λ reply. kept_block_got name p reply free h))

  kept_enter_with : (text : List ℕ) (outputs : List (List ℕ)) (p : Mind) → Kept (HeldAre blocks) p → Always (Comes blocks) (enter_with text outputs p)
  kept_enter_with text outputs p h =
      always_if (Comes blocks) (is_too_long One text p.vars outputs) (skip_value One text outputs p) (lock_block text (value_in p.vars outputs text) p)
      (always_said (Comes blocks) p _ (GoesOn (overflowed p)) h) (kept_block_lock text (value_in p.vars outputs text) p h)

  kept_enter_under : (text : List ℕ) (p : Mind) → Kept (HeldAre blocks) p → Always (Comes blocks) (enter_under text p)
  kept_enter_under text p h =
      always_if (Comes blocks) (is_empty text) (say_then p (no_lock_line (codes "{")) (Enters None p)) _ (always_said (Comes blocks) p (no_lock_line (codes "{")) (Enters None p) h)
      (always_then (AfterCommands (HeldAre blocks)) (Comes blocks) (outputs_of (commands_in One text) p) _ (kept_outputs (HeldAre blocks) (commands_in One text) p h)
      (λ ran k. kept_enter_with text ran.outputs ran.mind k))

  kept_enter : (lock : Option (List ℕ)) (p : Mind) → Kept (HeldAre blocks) p → Always (Comes blocks) (enter lock p)
  kept_enter None p h = h
  kept_enter (Some text) p h = kept_enter_under text p h

  kept_turn : (acted : Acted) (p : Mind) → Kept (HeldAre blocks) p → Comes blocks (acted_turn acted p)
  kept_turn Delivered p h = h
  kept_turn other p h = h

  kept_acting : (top : Top) (act : Act) (p : Mind) → Kept (HeldAre blocks) p → Always (Comes blocks) (acting top act p)
  kept_acting top act p h =
      always_then (AfterAct (HeldAre blocks)) (Comes blocks) (act_on top act p) (λ came. Ends (turn_after came)) (kept_act (HeldAre blocks) top act p h)
      (λ came k. kept_turn came.acted came.mind k)

  kept_carried : (top : Top) (act : Act) (p : Mind) → Kept (HeldAre blocks) p → Always (Comes blocks) (carry_out top act p)
  kept_carried top (Block trees) p h = always_if (Comes blocks) top.flags.copy (Ends (Clones p)) (enter top.lock p) h (kept_enter top.lock p h)
  kept_carried top other p h = kept_acting top other p h

  -- a statement
  pub kept_statement : (tree : Tree) (p : Mind) → Kept (HeldAre blocks) p → Always (Comes blocks) (statement tree p)
  kept_statement (Assign name text) p h = always_so (Stays blocks) (Comes blocks) (assign name text p) stays_comes (kept_assign name text p h)
  kept_statement (Unset name) p h = always_so (Stays blocks) (Comes blocks) (unset name p) stays_comes (kept_unset name p h)
  kept_statement (Recipe top act) p h = kept_first (HeldAre blocks) (Comes blocks) top (λ q. carry_out top act q) p (λ q k. k) (λ q k. kept_carried top act q k) h
  kept_statement (Defect line text) p h = always_said (Comes blocks) p (skipped_line text) (GoesOn p) h

  -- the lock of a block that is left, where it has one, is given back
  pub kept_left : (lock : Option (List ℕ)) (p : Mind) → HeldAre (named lock blocks) p.locks p.global → Always (Kept (HeldAre blocks)) (give_maybe lock p)
  kept_left None p h = h
  kept_left (Some name) p h =
      always_yes (Kept (HeldAre blocks)) (holds_name p.locks name) _ _ (block_held blocks p.locks name p.global h)
      (λ reply. after_gone (Kept (HeldAre blocks)) name (without_lock name p) reply (gave_block blocks p.locks name p.global h))
