-- LOCKFILE: a lock that a process holds from one statement to another.
use Rattle.std.specs.Prelude.{ℕ, List, ◌∷◌, Option, Some, None, nat_lt, if◌then◌else◌}
use Rattle.pm_bytes.specs.Path.{full_name}
use Rattle.pm_journal.specs.Held.{holds_name, without}
use Rattle.pm_journal.specs.Locking.{lock_act}
use Rattle.pm_journal.specs.LogText.{couldnt_lock_line, forcing_lock_line, couldnt_unlock_line}
use Rattle.pm_journal.specs.declared.acts.Act.TheVariants.{Unlock}
use Rattle.pm_journal.specs.declared.acts.Reply.{Reply}
use Rattle.pm_journal.specs.declared.acts.Reply.TheVariants.{Held}
use Rattle.pm_journal.specs.Plan.{Plan, Ends, and_then, ask}
use Rattle.pm_meaning.specs.Locks.{is_fault, rule_of}
use Rattle.pm_meaning.specs.Texts.{is_empty, is_file_text}
use Rattle.pm_meaning.specs.Minds.{Mind}
use Rattle.pm_meaning.specs.Turns.{Turn, GoesOn, say_then, refuse_name}

-- the lock is held, and LOCKFILE's
abbrev pub with_global : List ℕ → Mind → Mind
with_global name p = record p { locks = name ∷ p.locks; global = Some name }

-- the lock isn't held any more, and LOCKFILE has none
abbrev pub without_global : List ℕ → Mind → Mind
without_global name p = record p { locks = without p.locks name; global = None }

-- where the removal of a lock file failed, this is told
abbrev pub after_giving : List ℕ → Mind → Reply → Plan Mind
after_giving name p reply = if is_fault reply then say_then p (couldnt_unlock_line name) p else Ends p

-- the lock is given back, where there is one and it is held
abbrev pub give_named : Option (List ℕ) → Mind → Plan Mind
give_named None p = Ends p
give_named (Some name) p =
    if holds_name p.locks name then and_then (ask (Unlock name)) (after_giving name (without_global name p)) else Ends p

-- LOCKFILE's lock is given back, and the process goes on
abbrev pub drop_lock : Mind → Plan Turn
drop_lock p = and_then (give_named p.global p) (λ q. Ends (GoesOn q))

-- a lock that was got is held; that it was forced, or that it wasn't got, is told
abbrev pub got_lock : List ℕ → Mind → Reply → Plan Turn
got_lock name p (Held sleeps forced) =
    if nat_lt 0 forced then say_then (with_global name p) (forcing_lock_line name) (GoesOn (with_global name p)) else Ends (GoesOn (with_global name p))
got_lock name p other = say_then p (couldnt_lock_line name) (GoesOn p)

-- a lock is asked for that isn't held yet
abbrev pub take_lock : List ℕ → Mind → Plan Turn
take_lock value p =
    if holds_name p.locks (full_name p.base value) then refuse_name value p
    else and_then (ask (lock_act (full_name p.base value) (rule_of p.vars))) (got_lock (full_name p.base value) p)

-- LOCKFILE got this value: the lock that it had is given back, and where the value isn't empty, the new one is taken; a value
-- that can't be a name changes nothing
abbrev pub change_lock : List ℕ → Mind → Plan Turn
change_lock value p =
    if is_empty value then drop_lock p
    else if is_file_text value then and_then (give_named p.global p) (take_lock value)
    else refuse_name value p
