-- Which lock files a run leaves.
use Rattle.std.specs.Prelude.{◌≡◌, ℕ, List, [], ◌∷◌, ◌++◌, reverse, None}
use Rattle.pm_host.specs.World.{World}
use Rattle.pm_journal.specs.Held.{AreUnlocks, IsRemoval}
use Rattle.pm_journal.specs.declared.acts.Act.{Act}
use Rattle.pm_journal.specs.declared.acts.Act.TheVariants.{Lock, Unlock, SayErr}
use Rattle.pm_journal.specs.declared.acts.Reply.{Reply}
use Rattle.pm_journal.specs.declared.acts.Reply.TheVariants.{Held, Removed}
use Rattle.pm_journal.specs.declared.acts.Entry.{Entry}
use Rattle.lockfile_top.specs.Lines.{sorry_line}
use Rattle.lockfile_top.specs.Doing.{with_name, without_name}

-- the lock files that were made and not removed since, in the order in which they were last made
abbrev pub made_from : Act → Reply → List (List ℕ) → List (List ℕ)
made_from (Lock name sleep limit suspend tries) (Held sleeps forced) names = with_name name names
made_from (Unlock name) Removed names = without_name name names
made_from act reply names = names

-- the lock files that were made and not removed, after these entries
abbrev pub made_after : List (List ℕ) → List Entry → List (List ℕ)
made_after names [] = names
made_after names (e ∷ es) = made_after (made_from e.act e.reply names) es

-- a lock was got, or one was given back
abbrev pub Succeeds : Act → Reply → Type 0
Succeeds (Lock name sleep limit suspend tries) (Held sleeps forced) = Unit {0}
Succeeds (Lock name sleep limit suspend tries) other = ⊥
Succeeds (Unlock name) Removed = Unit {0}
Succeeds (Unlock name) other = ⊥
Succeeds act reply = Unit {0}

-- each lock was got, and each that was to be given back was
abbrev pub AllSucceed : List Entry → Type 0
AllSucceed [] = Unit {0}
AllSucceed (e ∷ es) = Succeeds e.act e.reply × AllSucceed es

-- where a removal was tried and didn't fail, nothing stands there
abbrev pub IfRemoved : Act → Reply → World → Type 0
IfRemoved (Unlock name) reply w = IsRemoval reply → w.nodes name ≡ None
IfRemoved act reply w = Unit {0}

-- after each of these entries that removed a file, nothing has its name
abbrev pub AllGone : List Entry → World → Type 0
AllGone [] w = Unit {0}
AllGone (e ∷ es) w = IfRemoved e.act e.reply w × AllGone es w

-- the name that the act of a lock is about
abbrev pub about : Act → List ℕ
about (Lock name sleep limit suspend tries) = name
about (Unlock name) = name
about act = []

-- A run that begins with these lock files stopped: of its entries those in front succeeded, and the next one didn't.
-- Then the removal of each lock file that was made by then was tried, the last one made first, and the name was told.
pub record StopsFrom (made : List (List ℕ)) (entries : List Entry) : Type 0 where
  pub front : List Entry
  pub failed : Entry
  pub given : List Entry
  pub line : Entry
  pub entries_are : entries ≡ front ++ (failed ∷ (given ++ line ∷ []))
  pub done : AllSucceed front
  pub missed : Succeeds failed.act failed.reply → ⊥
  pub unlocks : AreUnlocks (reverse (made_after made front)) given
  pub line_is : line.act ≡ SayErr (sorry_line (about failed.act))
