-- Words as names of lock files.
use Rattle.std.specs.Prelude.{◌≡◌, ℕ, true, false, List, Option, Result, Ok, Err}
use Rattle.pm_bytes.specs.declared.error.NameRefused.{NameRefused}
use Rattle.pm_bytes.specs.declared.error.NameRefused.TheVariants.{Unusable, Memory}
use Rattle.pm_meaning.specs.Locks.{is_lock_word}

-- the word as a name, or that it isn't usable
abbrev pub IsLockName : Option (List ℕ) → Result (Option (List ℕ)) NameRefused → Type 0
IsLockName word (Ok name) = (is_lock_word word ≡ true) × (name ≡ word)
IsLockName word (Err Unusable) = is_lock_word word ≡ false
IsLockName word (Err Memory) = Unit {0}
