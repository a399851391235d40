-- What no statement but a delivery comes to.
use Rattle.std.proofs.Common.{◌≡◌, ℕ, Bool, true, false, not, List, [], ◌∷◌, Option, Some, None, refl, ap}
use Rattle.std.specs.Prelude.{if◌then◌else◌, codes, bytes_eq, nat_lt}
use Rattle.pm_bytes.specs.Path.{full_name}
use Rattle.pm_host.specs.declared.answers.Looked.TheVariants.{Folder as LookedFolder}
use Rattle.pm_recipe.specs.Tree.{Top}
use Rattle.pm_subst.specs.Commands.{commands_in}
use Rattle.pm_subst.specs.declared.kinds.Mode.{Mode}
use Rattle.pm_subst.specs.declared.kinds.Mode.TheVariants.{One}
use Rattle.pm_journal.specs.LogText.{host_mismatched_line, unusable_name_line, couldnt_chdir_line, couldnt_lock_line, forcing_lock_line, no_lock_line, value_too_long_line}
use Rattle.pm_journal.specs.declared.acts.Act.{Act}
use Rattle.pm_journal.specs.declared.acts.Act.TheVariants.{Probe}
use Rattle.pm_journal.specs.declared.acts.Reply.{Reply}
use Rattle.pm_journal.specs.declared.acts.Reply.TheVariants.{Found, Held}
use Rattle.pm_journal.specs.declared.acts.Entry.{Entry}
use Rattle.pm_journal.specs.Held.{holds_name}
use Rattle.pm_journal.specs.Locking.{lock_act}
use Rattle.pm_journal.specs.Plan.{Plan, Ends, and_then, ask, Plays}
use Rattle.pm_journal.proofs.WalkJoin.{parts_of}
use Rattle.pm_meaning.specs.Changes.{with_variable, with_base, without_variable, overflowed}
use Rattle.pm_meaning.specs.Logging.{log}
use Rattle.pm_meaning.specs.Minds.{Mind}
use Rattle.pm_meaning.specs.Outputs.{Outputs, outputs_of}
use Rattle.pm_meaning.specs.Turns.{Turn, GoesOn, Halts, Enters, Includes, Switches, EndsFile, Clones, ActEnd, for_good, failed, refuse_act, overflow_act, skip_act, say_then, refuse_name, is_too_long, length_in, skip_value}
use Rattle.pm_meaning.specs.Assigning.{value_in, probed, change_folder, include_rcfile, switch_rcfile, change_host, change_rcfile, shift_arguments, change_other, assigned, assign_with, assign, unset}
use Rattle.pm_meaning.specs.GlobalLock.{with_global, give_named, drop_lock, got_lock, take_lock, change_lock}
use Rattle.pm_meaning.specs.Locks.{rule_of, with_lock}
use Rattle.pm_meaning.specs.Blocks.{got_block_lock, lock_block, enter_with, enter_under, enter, enter_block}
use Rattle.pm_meaning.specs.Texts.{is_empty, is_file_text}
use Rattle.pm_meaning.specs.declared.acted.Cause.{Cause}
use Rattle.pm_meaning.specs.declared.acted.Cause.TheVariants as cause
use Rattle.pm_meaning.specs.declared.process.End.TheVariants.{HostOff}
use Rattle.pm_meaning.specs.Ends.{is_delivered}

-- a plan none of whose ends passes the test
abbrev pub Never : {R : Type 0} → (R → Bool) → Plan R → Type 0
Never {R} test plan = (es : List Entry) (end : R) → Plays plan es end → test end ≡ true → ⊥

pub never_ends : {R : Type 0} (test : R → Bool) (other : R) → test other ≡ false → Never test (Ends other)
never_ends test other fails [] end h passes = let e : test end ≡ test other = ap test h in absurd (cc)
never_ends test other fails (e ∷ es) end h passes = h

pub never_asked : {R : Type 0} (test : R → Bool) (act : Act) (f : Reply → Plan R) → ((reply : Reply) → Never test (f reply)) → Never test (and_then (ask act) f)
never_asked test act f never [] end h passes = h
never_asked test act f never (e ∷ es) end h passes = never e.reply es end h.2 passes

-- whatever comes first
pub never_then : {R S : Type 0} (test : S → Bool) (p : Plan R) (f : R → Plan S) → ((r : R) → Never test (f r)) → Never test (and_then p f)
never_then test p f never es end h passes = let k = parts_of p f es end h in never k.middle k.rest end k.plays_rest passes

pub never_said : {R : Type 0} (test : R → Bool) (p : Mind) (text : List ℕ) (next : R) → test next ≡ false → Never test (say_then p text next)
never_said test p text next fails = never_then test (log text p) (λ done. Ends next) (λ done. never_ends test next fails)

pub never_if : {R : Type 0} (test : R → Bool) (b : Bool) (p q : Plan R) → Never test p → Never test q → Never test (if b then p else q)
never_if test true p q h k = h
never_if test false p q h k = k

-- an action that wasn't done delivers nothing
pub never_failed : (cause : Cause) (text : List ℕ) (p : Mind) → Never for_good (refuse_act cause text p)
never_failed cause text p = never_said for_good p (unusable_name_line text) (failed cause p) refl

pub never_overflowed : (length : ℕ) (p : Mind) → Never for_good (overflow_act length p)
never_overflowed length p = never_said for_good p (value_too_long_line length) (failed (cause.Overflow length) (overflowed p)) refl

pub never_too_long : (mode : Mode) (text : List ℕ) (outputs : List (List ℕ)) (p : Mind) → Never for_good (skip_act mode text outputs p)
never_too_long mode text outputs p = never_overflowed (length_in mode text p.vars outputs) p

-- a turn that ends the process as delivered
abbrev pub delivers : Turn → Bool
delivers (GoesOn p) = false
delivers (Halts end p) = is_delivered end
delivers other = false

-- the test fails on each turn that statements other than deliveries come to
pub record FailsElsewhere (test : Turn → Bool) : Type 0 where
  pub goes : (p : Mind) → test (GoesOn p) ≡ false
  pub elsewhere : (p : Mind) → test (Halts HostOff p) ≡ false
  pub enters : (lock : Option (List ℕ)) (p : Mind) → test (Enters lock p) ≡ false
  pub includes : (name : List ℕ) (p : Mind) → test (Includes name p) ≡ false
  pub switches : (name : List ℕ) (p : Mind) → test (Switches name p) ≡ false
  pub ends_file : (p : Mind) → test (EndsFile p) ≡ false
  pub clones : (p : Mind) → test (Clones p) ≡ false

pub no_delivery : FailsElsewhere delivers
no_delivery = record {
  goes = λ p. refl;
  elsewhere = λ p. refl;
  enters = λ lock p. refl;
  includes = λ name p. refl;
  switches = λ name p. refl;
  ends_file = λ p. refl;
  clones = λ p. refl;
}

pub never_goes : (test : Turn → Bool) → FailsElsewhere test → (p : Mind) → Never test (Ends (GoesOn p))
never_goes test fails p = never_ends test (GoesOn p) (fails.goes p)

pub never_told : (test : Turn → Bool) → FailsElsewhere test → (p : Mind) (text : List ℕ) → Never test (say_then p text (GoesOn p))
never_told test fails p text = never_said test p text (GoesOn p) (fails.goes p)

never_probed : (test : Turn → Bool) → FailsElsewhere test → (name : List ℕ) (p : Mind) (reply : Reply) → Never test (probed name p reply)
never_probed test fails name p (Found LookedFolder) = never_goes test fails (with_base name p)
never_probed test fails name p other = never_told test fails p (couldnt_chdir_line name)

never_changed : (test : Turn → Bool) → FailsElsewhere test → (value : List ℕ) (p : Mind) → Never test (change_folder value p)
never_changed test fails value p =
    let name = full_name p.base value in
    never_if test (is_file_text value) (and_then (ask (Probe name)) (probed name p)) (say_then p (unusable_name_line value) (GoesOn p))
    (never_asked test (Probe name) (probed name p) (never_probed test fails name p)) (never_told test fails p (unusable_name_line value))

pub never_skipped : (test : Turn → Bool) → FailsElsewhere test → (mode : Mode) (text : List ℕ) (outputs : List (List ℕ)) (p : Mind) → Never test (skip_value mode text outputs p)
never_skipped test fails mode text outputs p = never_said test p (value_too_long_line (length_in mode text p.vars outputs)) (GoesOn (overflowed p)) (fails.goes (overflowed p))

-- entering a block is no delivery
never_locked_block : (test : Turn → Bool) → FailsElsewhere test → (name : List ℕ) (p : Mind) (reply : Reply) → Never test (got_block_lock name p reply)
never_locked_block test fails name p (Held sleeps forced) =
    let q = with_lock name p in
    never_if test (nat_lt 0 forced) (say_then q (forcing_lock_line name) (Enters (Some name) q)) (Ends (Enters (Some name) q))
    (never_said test q (forcing_lock_line name) (Enters (Some name) q) (fails.enters (Some name) q)) (never_ends test (Enters (Some name) q) (fails.enters (Some name) q))
never_locked_block test fails name p other = never_told test fails p (couldnt_lock_line name)

never_block_lock : (test : Turn → Bool) → FailsElsewhere test → (text value : List ℕ) (p : Mind) → Never test (lock_block text value p)
never_block_lock test fails text value p =
    let name = full_name p.base value in
    let act = lock_act name (rule_of p.vars) in
    let asked : Plan Turn = and_then (ask act) (got_block_lock name p) in
    let free : Plan Turn = if holds_name p.locks name then refuse_name text p else asked in
    never_if test (not (is_file_text value)) (refuse_name text p) free (never_told test fails p (unusable_name_line text))
    (never_if test (holds_name p.locks name) (refuse_name text p) asked (never_told test fails p (unusable_name_line text))
    (never_asked test act (got_block_lock name p) (never_locked_block test fails name p)))

never_under_with : (test : Turn → Bool) → FailsElsewhere test → (text : List ℕ) (outputs : List (List ℕ)) (p : Mind) → Never test (enter_with text outputs p)
never_under_with test fails text outputs p =
    let locks = lock_block text (value_in p.vars outputs text) p in
    never_if test (is_too_long One text p.vars outputs) (skip_value One text outputs p) locks (never_skipped test fails One text outputs p) (never_block_lock test fails text (value_in p.vars outputs text) p)

never_under : (test : Turn → Bool) → FailsElsewhere test → (text : List ℕ) (p : Mind) → Never test (enter_under text p)
never_under test fails text p =
    let commands = outputs_of (commands_in One text) p in
    let entered : Outputs → Plan Turn = λ ran. enter_with text ran.outputs ran.mind in
    let told : Plan Turn = say_then p (no_lock_line (codes "{")) (Enters None p) in
    never_if test (is_empty text) told (and_then commands entered) (never_said test p (no_lock_line (codes "{")) (Enters None p) (fails.enters None p))
    (never_then test commands entered (λ ran. never_under_with test fails text ran.outputs ran.mind))

never_in : (test : Turn → Bool) → FailsElsewhere test → (lock : Option (List ℕ)) (p : Mind) → Never test (enter lock p)
never_in test fails None p = never_ends test (Enters None p) (fails.enters None p)
never_in test fails (Some text) p = never_under test fails text p

pub never_entered : (test : Turn → Bool) → FailsElsewhere test → (top : Top) (p : Mind) → Never test (enter_block top p)
never_entered test fails top p = never_if test top.flags.copy (Ends (Clones p)) (enter top.lock p) (never_ends test (Clones p) (fails.clones p)) (never_in test fails top.lock p)

never_dropped : (test : Turn → Bool) → FailsElsewhere test → (p : Mind) → Never test (drop_lock p)
never_dropped test fails p es end h passes =
    let k = parts_of (give_named p.global p) (λ q. Ends (GoesOn q)) es end h in never_goes test fails k.middle k.rest end k.plays_rest passes

never_got : (test : Turn → Bool) → FailsElsewhere test → (name : List ℕ) (p : Mind) (reply : Reply) → Never test (got_lock name p reply)
never_got test fails name p (Held sleeps forced) =
    let q = with_global name p in
    never_if test (nat_lt 0 forced) (say_then q (forcing_lock_line name) (GoesOn q)) (Ends (GoesOn q)) (never_told test fails q (forcing_lock_line name)) (never_goes test fails q)
never_got test fails name p other = never_told test fails p (couldnt_lock_line name)

never_locked : (test : Turn → Bool) → FailsElsewhere test → (value : List ℕ) (p : Mind) → Never test (take_lock value p)
never_locked test fails value p =
    let name = full_name p.base value in
    let act = lock_act name (rule_of p.vars) in
    never_if test (holds_name p.locks name) (refuse_name value p) (and_then (ask act) (got_lock name p))
    (never_told test fails p (unusable_name_line value)) (never_asked test act (got_lock name p) (never_got test fails name p))

never_changed_lock : (test : Turn → Bool) → FailsElsewhere test → (value : List ℕ) (p : Mind) → Never test (change_lock value p)
never_changed_lock test fails value p =
    let taken : Plan Turn = and_then (give_named p.global p) (take_lock value) in
    let named : Plan Turn = if is_file_text value then taken else refuse_name value p in
    never_if test (is_empty value) (drop_lock p) named (never_dropped test fails p)
    (never_if test (is_file_text value) taken (refuse_name value p)
    (λ es end h passes. let k = parts_of (give_named p.global p) (take_lock value) es end h in never_locked test fails value k.middle k.rest end k.plays_rest passes) (never_told test fails p (unusable_name_line value)))

-- asking for another rcfile is no delivery
never_included : (test : Turn → Bool) → FailsElsewhere test → (value : List ℕ) (p : Mind) → Never test (include_rcfile value p)
never_included test fails value p =
    let name = full_name p.base value in
    let named : Plan Turn = if is_file_text value then Ends (Includes name p) else refuse_name value p in
    never_if test (is_empty value) (Ends (GoesOn p)) named (never_goes test fails p)
    (never_if test (is_file_text value) (Ends (Includes name p)) (refuse_name value p) (never_ends test (Includes name p) (fails.includes name p)) (never_told test fails p (unusable_name_line value)))

never_switched : (test : Turn → Bool) → FailsElsewhere test → (value : List ℕ) (p : Mind) → Never test (switch_rcfile value p)
never_switched test fails value p =
    let name = full_name p.base value in
    let named : Plan Turn = if is_file_text value then Ends (Switches name p) else refuse_name value p in
    never_if test (is_empty value) (Ends (EndsFile p)) named (never_ends test (EndsFile p) (fails.ends_file p))
    (never_if test (is_file_text value) (Ends (Switches name p)) (refuse_name value p) (never_ends test (Switches name p) (fails.switches name p)) (never_told test fails p (unusable_name_line value)))

never_mismatched : (test : Turn → Bool) → FailsElsewhere test → (value : List ℕ) (p : Mind) → Never test (change_host value p)
never_mismatched test fails value p =
    never_if test (bytes_eq value p.host_name) (Ends (GoesOn p)) (say_then p (host_mismatched_line value) (Halts HostOff p)) (never_goes test fails p)
    (never_said test p (host_mismatched_line value) (Halts HostOff p) (fails.elsewhere p))

never_changed_rcfile : (test : Turn → Bool) → FailsElsewhere test → (name value : List ℕ) (p : Mind) → Never test (change_rcfile name value p)
never_changed_rcfile test fails name value p =
    let host : Plan Turn = if bytes_eq name (codes "HOST") then change_host value p else Ends (GoesOn p) in
    let other : Plan Turn = if bytes_eq name (codes "SWITCHRC") then switch_rcfile value p else host in
    never_if test (bytes_eq name (codes "INCLUDERC")) (include_rcfile value p) other (never_included test fails value p)
    (never_if test (bytes_eq name (codes "SWITCHRC")) (switch_rcfile value p) host (never_switched test fails value p)
    (never_if test (bytes_eq name (codes "HOST")) (change_host value p) (Ends (GoesOn p)) (never_mismatched test fails value p) (never_goes test fails p)))

-- logging a text and dropping arguments are no deliveries
never_other : (test : Turn → Bool) → FailsElsewhere test → (name value : List ℕ) (p : Mind) → Never test (change_other name value p)
never_other test fails name value p =
    let shifted : Plan Turn = if bytes_eq name (codes "SHIFT") then Ends (GoesOn (shift_arguments value p)) else change_rcfile name value p in
    never_if test (bytes_eq name (codes "LOG")) (say_then p value (GoesOn p)) shifted (never_told test fails p value)
    (never_if test (bytes_eq name (codes "SHIFT")) (Ends (GoesOn (shift_arguments value p))) (change_rcfile name value p)
    (never_goes test fails (shift_arguments value p)) (never_changed_rcfile test fails name value p))

pub never_set : (test : Turn → Bool) → FailsElsewhere test → (name value : List ℕ) (p : Mind) → Never test (assigned name value p)
never_set test fails name value p =
    let q = with_variable name value p in
    let lock : Plan Turn = if bytes_eq name (codes "LOCKFILE") then change_lock value q else change_other name value q in
    never_if test (bytes_eq name (codes "MAILDIR")) (change_folder value q) lock (never_changed test fails value q)
    (never_if test (bytes_eq name (codes "LOCKFILE")) (change_lock value q) (change_other name value q) (never_changed_lock test fails value q) (never_other test fails name value q))

never_assigned_with : (test : Turn → Bool) → FailsElsewhere test → (name text : List ℕ) (outputs : List (List ℕ)) (p : Mind) → Never test (assign_with name text outputs p)
never_assigned_with test fails name text outputs p =
    never_if test (is_too_long One text p.vars outputs) (skip_value One text outputs p) (assigned name (value_in p.vars outputs text) p)
    (never_skipped test fails One text outputs p) (never_set test fails name (value_in p.vars outputs text) p)

pub never_assign : (test : Turn → Bool) → FailsElsewhere test → (name text : List ℕ) (p : Mind) → Never test (assign name text p)
never_assign test fails name text p =
    let commands = outputs_of (commands_in One text) p in
    let given : Outputs → Plan Turn = λ ran. assign_with name text ran.outputs ran.mind in
    never_then test commands given (λ ran. never_assigned_with test fails name text ran.outputs ran.mind)

pub never_unset : (test : Turn → Bool) → FailsElsewhere test → (name : List ℕ) (p : Mind) → Never test (unset name p)
never_unset test fails name p =
    let q = without_variable name p in
    let lock : Plan Turn = if bytes_eq name (codes "LOCKFILE") then drop_lock q else Ends (GoesOn q) in
    never_if test (bytes_eq name (codes "SWITCHRC")) (Ends (EndsFile q)) lock (never_ends test (EndsFile q) (fails.ends_file q))
    (never_if test (bytes_eq name (codes "LOCKFILE")) (drop_lock q) (Ends (GoesOn q)) (never_dropped test fails q) (never_goes test fails q))
