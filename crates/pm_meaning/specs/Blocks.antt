-- Blocks: how one is entered, with its lock, and left.
use Rattle.std.specs.Prelude.{ℕ, not, nat_lt, List, Option, Some, None, codes, if◌then◌else◌}
use Rattle.pm_bytes.specs.Path.{full_name}
use Rattle.pm_recipe.specs.Tree.{Top, Act, Block}
use Rattle.pm_subst.specs.Commands.{commands_in}
use Rattle.pm_subst.specs.declared.kinds.Mode.TheVariants.{One}
use Rattle.pm_journal.specs.Held.{holds_name, without}
use Rattle.pm_journal.specs.Locking.{lock_act}
use Rattle.pm_journal.specs.LogText.{couldnt_lock_line, forcing_lock_line, no_lock_line}
use Rattle.pm_journal.specs.declared.acts.Act.TheVariants.{Unlock}
use Rattle.pm_journal.specs.declared.acts.Reply.{Reply}
use Rattle.pm_journal.specs.declared.acts.Reply.TheVariants.{Held}
use Rattle.pm_journal.specs.Plan.{Plan, Ends, and_then, ask}
use Rattle.pm_meaning.specs.Acting.{acting}
use Rattle.pm_meaning.specs.Chains.{new_chain, with_chain, succeeded}
use Rattle.pm_meaning.specs.Assigning.{value_in}
use Rattle.pm_meaning.specs.GlobalLock.{after_giving}
use Rattle.pm_meaning.specs.Locks.{rule_of, with_lock}
use Rattle.pm_meaning.specs.Outputs.{outputs_of}
use Rattle.pm_meaning.specs.Texts.{is_empty, is_file_text}
use Rattle.pm_meaning.specs.Minds.{Mind}
use Rattle.pm_meaning.specs.Turns.{Turn, GoesOn, Enters, Clones, say_then, refuse_name, is_too_long, skip_value}
use Rattle.pm_meaning.specs.declared.chain.Chain.{Chain}

-- the block is entered under its lock; that it was forced, or that it wasn't got, is told
abbrev pub got_block_lock : List ℕ → Mind → Reply → Plan Turn
got_block_lock name p (Held sleeps forced) =
    if nat_lt 0 forced then say_then (with_lock name p) (forcing_lock_line name) (Enters (Some name) (with_lock name p))
    else Ends (Enters (Some name) (with_lock name p))
got_block_lock name p other = say_then p (couldnt_lock_line name) (GoesOn p)

-- the lock of this name is asked for, unless it can't be a name or is held already; the text is told
abbrev pub lock_block : List ℕ → List ℕ → Mind → Plan Turn
lock_block text value p =
    if not (is_file_text value) then refuse_name text p
    else if holds_name p.locks (full_name p.base value) then refuse_name text p
    else and_then (ask (lock_act (full_name p.base value) (rule_of p.vars))) (got_block_lock (full_name p.base value) p)

-- the lock's text is expanded with these outputs of its commands
abbrev pub enter_with : List ℕ → List (List ℕ) → Mind → Plan Turn
enter_with text outputs p =
    if is_too_long One text p.vars outputs then skip_value One text outputs p else lock_block text (value_in p.vars outputs text) p

-- the block is entered under the lock of this text; one without a text isn't there for a block, which is told
abbrev pub enter_under : List ℕ → Mind → Plan Turn
enter_under text p =
    if is_empty text then say_then p (no_lock_line (codes "{")) (Enters None p)
    else and_then (outputs_of (commands_in One text) p) (λ ran. enter_with text ran.outputs ran.mind)

-- the block is entered, under a lock where one is asked for
abbrev pub enter : Option (List ℕ) → Mind → Plan Turn
enter None p = Ends (Enters None p)
enter (Some text) p = enter_under text p

-- under the flag c a block is for a copy of the process, and its lock isn't taken
abbrev pub enter_block : Top → Mind → Plan Turn
enter_block top p = if top.flags.copy then Ends (Clones p) else enter top.lock p

-- what a recipe does that is executed
abbrev pub carry_out : Top → Act → Mind → Plan Turn
carry_out top (Block trees) p = enter_block top p
carry_out top act p = acting top act p

-- a block begins with nothing before its first recipe
abbrev pub begun_block : Mind → Mind
begun_block p = with_chain new_chain p

-- after a block the chain of its recipe comes back, which succeeded
abbrev pub closed : Chain → Mind → Mind
closed saved p = succeeded (with_chain saved p)

-- the process doesn't hold this lock any more
abbrev pub without_lock : List ℕ → Mind → Mind
without_lock name p = record p { locks = without p.locks name }

-- a block's lock is given back
abbrev pub give_block_lock : List ℕ → Mind → Plan Mind
give_block_lock name p = if holds_name p.locks name then and_then (ask (Unlock name)) (after_giving name (without_lock name p)) else Ends p

-- where the block has one
abbrev pub give_maybe : Option (List ℕ) → Mind → Plan Mind
give_maybe None p = Ends p
give_maybe (Some name) p = give_block_lock name p
