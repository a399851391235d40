-- Takings of a lock, answer by answer, and the ends of its giving back.
use Rattle.std.specs.Prelude.{◌≡◌, ℕ, zero, suc, List, [], ◌∷◌, ◌++◌}
use Rattle.pm_host.specs.declared.answers.Aged.TheVariants.{Age as Seconds, Absent as AgeAbsent, Failed as AgeFailed}
use Rattle.pm_host.specs.declared.answers.Looked.TheVariants.{File, Folder, Nothing, Failed as LookFailed}
use Rattle.pm_host.specs.declared.answers.Made.TheVariants.{Made, Exists, Failed as MadeFailed}
use Rattle.pm_host.specs.declared.answers.Removed.TheVariants.{Removed, Absent, Failed as RemoveFailed}
use Rattle.pm_host.specs.declared.calls.Answer.{Answer}
use Rattle.pm_host.specs.declared.calls.Answer.TheVariants.{Create as Tried, Age as Aged, Look as Looked, Remove as Gave, Slept}
use Rattle.pm_journal.specs.Locking.{lock_rule, lock_step}
use Rattle.pm_journal.specs.declared.locking.LockEnd.TheVariants.{Held, Busy, Failed}
use Rattle.pm_journal.specs.declared.locking.LockStep.{LockStep}
use Rattle.pm_journal.specs.declared.locking.LockStep.TheVariants.{Create, Age, Look, Remove, Sleep, Finish}
use Rattle.pm_locks.specs.Giving.{removed_of}
use Rattle.pm_locks.specs.Machine.{Machine, taking, taking_heard}
use Rattle.pm_locks.specs.declared.give.GiveEnd.TheVariants.{Removed as GaveBack, Gone, Failed as NotGiven}

-- what a taking asks, one step after the other, while these answers come
abbrev pub asked : Machine → List Answer → List LockStep
asked m [] = lock_step m.at ∷ []
asked m (a ∷ more) = lock_step m.at ∷ asked (taking_heard m a) more

-- a taking with sleeps of 8 seconds, by force after so many, then with 16 seconds of sleep, and with so many tries
abbrev pub after : ℕ → ℕ → Machine
after limit tries = taking (lock_rule 8 limit 16 tries)

-- a list so many times, one after the other
abbrev pub repeated : {A : Type 0} → ℕ → List A → List A
repeated zero some = []
repeated (suc n) some = some ++ repeated n some

-- what holds of them
pub record Examples : Type 0 where
  -- where nothing stands at the name, the lock is got at once
  pub at_once : asked (after 1024 1) (Tried Made ∷ []) ≡ Create ∷ Finish (Held 0 0) ∷ []
  -- where others have it, the next try comes after a sleep
  pub next_try : asked (after 1024 2) (Tried Exists ∷ Aged (Seconds 0) ∷ Slept ∷ Tried Made ∷ []) ≡ Create ∷ Age ∷ Sleep 8 ∷ Create ∷ Finish (Held 1 0) ∷ []
  -- after the last try none comes, and no sleep; a lock file isn't old at the limit
  pub last_try : asked (after 1024 2) (Tried Exists ∷ Aged (Seconds 0) ∷ Slept ∷ Tried Exists ∷ Aged (Seconds 1024) ∷ []) ≡ Create ∷ Age ∷ Sleep 8 ∷ Create ∷ Age ∷ Finish Busy ∷ []
  pub thousand_tries : asked (after 0 1000) (repeated 999 (Tried Exists ∷ Slept ∷ []) ++ Tried Exists ∷ []) ≡ repeated 999 (Create ∷ Sleep 8 ∷ []) ++ Create ∷ Finish Busy ∷ []
  -- above the limit one of at most 16 bytes is removed by force, if it isn't gone by then; that loses no try, and its sleep counts
  pub by_force : asked (after 1024 1) (Tried Exists ∷ Aged (Seconds 1025) ∷ Looked (File 16) ∷ Gave Removed ∷ Slept ∷ Tried Made ∷ [])
      ≡ Create ∷ Age ∷ Look ∷ Remove ∷ Sleep 16 ∷ Create ∷ Finish (Held 1 1) ∷ []
  pub gone_by_then : asked (after 1024 1) (Tried Exists ∷ Aged (Seconds 1025) ∷ Looked (File 0) ∷ Gave Absent ∷ Slept ∷ Tried Made ∷ [])
      ≡ Create ∷ Age ∷ Look ∷ Remove ∷ Sleep 16 ∷ Create ∷ Finish (Held 1 1) ∷ []
  -- a longer file isn't removed, and no directory is
  pub long_file : asked (after 1024 2) (Tried Exists ∷ Aged (Seconds 1025) ∷ Looked (File 17) ∷ []) ≡ Create ∷ Age ∷ Look ∷ Sleep 8 ∷ []
  pub directory : asked (after 1024 1) (Tried Exists ∷ Aged (Seconds 1025) ∷ Looked Folder ∷ []) ≡ Create ∷ Age ∷ Look ∷ Finish Busy ∷ []
  -- one that is gone when it is looked at loses a try, without a sleep
  pub gone_at_age : asked (after 1024 2) (Tried Exists ∷ Aged AgeAbsent ∷ Tried Made ∷ []) ≡ Create ∷ Age ∷ Create ∷ Finish (Held 0 0) ∷ []
  pub gone_at_look : asked (after 1024 2) (Tried Exists ∷ Aged (Seconds 1025) ∷ Looked Nothing ∷ Tried Exists ∷ Aged AgeAbsent ∷ [])
      ≡ Create ∷ Age ∷ Look ∷ Create ∷ Age ∷ Finish Busy ∷ []
  -- by the limit 0 none is removed by force, and no more than 16 are
  pub no_force : asked (after 0 2) (Tried Exists ∷ Slept ∷ Tried Made ∷ []) ≡ Create ∷ Sleep 8 ∷ Create ∷ Finish (Held 1 0) ∷ []
  pub most_forced : asked (after 1024 2) (repeated 16 (Tried Exists ∷ Aged (Seconds 1025) ∷ Looked (File 0) ∷ Gave Removed ∷ Slept ∷ []) ++ Tried Exists ∷ Slept ∷ Tried Made ∷ [])
      ≡ repeated 16 (Create ∷ Age ∷ Look ∷ Remove ∷ Sleep 16 ∷ []) ++ Create ∷ Sleep 8 ∷ Create ∷ Finish (Held 17 16) ∷ []
  -- a call that fails ends the taking
  pub no_create : asked (after 1024 2) (Tried MadeFailed ∷ []) ≡ Create ∷ Finish Failed ∷ []
  pub no_age : asked (after 1024 2) (Tried Exists ∷ Aged AgeFailed ∷ []) ≡ Create ∷ Age ∷ Finish Failed ∷ []
  pub no_look : asked (after 1024 2) (Tried Exists ∷ Aged (Seconds 1025) ∷ Looked LookFailed ∷ []) ≡ Create ∷ Age ∷ Look ∷ Finish Failed ∷ []
  pub no_removal : asked (after 1024 2) (Tried Exists ∷ Aged (Seconds 1025) ∷ Looked (File 0) ∷ Gave RemoveFailed ∷ []) ≡ Create ∷ Age ∷ Look ∷ Remove ∷ Finish Failed ∷ []
  -- the ends of the giving back, by the answer to its `remove`
  pub given_back : removed_of GaveBack ≡ Removed
  pub given_where_gone : removed_of Gone ≡ Absent
  pub not_given : removed_of NotGiven ≡ RemoveFailed
