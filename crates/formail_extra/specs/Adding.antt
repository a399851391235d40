-- Identifiers are added to a cache, one after the other.
use Rattle.std.specs.Prelude.{◌≡◌, ◌≤◌, ◌<◌, ℕ, true, false, Option, Some, None, List, [], ◌∷◌, length}
use Rattle.pm_host.specs.Told.{HostView, Makes}
use Rattle.pm_host.specs.declared.answers.Cut.TheVariants.{Cut as CutDone, Failed as CutFailed}
use Rattle.pm_host.specs.declared.calls.Call.TheVariants.{Cut}
use Rattle.pm_host.specs.declared.calls.Answer.TheVariants.{Cut as AnswerCut}
use Rattle.pm_journal.specs.Appending.{Appends}
use Rattle.pm_journal.specs.declared.appending.AppendEnd.{AppendEnd}
use Rattle.pm_journal.specs.declared.appending.AppendEnd.TheVariants.{Done as EndDone, IsFolder as EndFolder, Raced as EndRaced}
use Rattle.formail_extra.specs.Cache.{is_seen, addition_to, cache_after}
use Rattle.formail_extra.specs.declared.adding.Written.{Written}
use Rattle.formail_extra.specs.declared.adding.Written.TheVariants.{Done, IsFolder, Raced, Failed}

-- how an append to the cache ended
abbrev pub written_of : AppendEnd → Written
written_of EndDone = Done
written_of EndFolder = IsFolder
written_of EndRaced = Raced
written_of other = Failed

-- the piece was appended to the cache and synced to disk, up to this end of the append
pub record Adds (name piece : List ℕ) (written : Written) (before after : HostView) : Type 0 where
  pub end : AppendEnd
  pub appends : Appends name piece true end before after
  pub is : written ≡ written_of end

-- a full cache was cut to nothing, and then the line of one identifier was appended; or it couldn't be cut
pub data BeginsAgain (name id : List ℕ) (written : Written) (before after : HostView) : Type 0 where
  uncut : written ≡ Failed → Makes (Cut name 0) (AnswerCut CutFailed) before after → BeginsAgain name id written before after
  cut : (middle : HostView) → Makes (Cut name 0) (AnswerCut CutDone) before middle
      → Adds name (addition_to [] id) written middle after → BeginsAgain name id written before after

-- one identifier was added to a cache of these bytes: by one append with its sync, and by a cut before it if the cache
-- has `most` bytes
pub data AddsId (name : List ℕ) (most : ℕ) (bytes id : List ℕ) (written : Written) (before after : HostView) : Type 0 where
  at_end : length bytes < most → Adds name (addition_to bytes id) written before after → AddsId name most bytes id written before after
  again : most ≤ length bytes → BeginsAgain name id written before after → AddsId name most bytes id written before after

-- nothing was asked
abbrev pub AsksNothing : Written → HostView → HostView → Type 0
AsksNothing written before after = (written ≡ Done) × (after ≡ before)

-- the identifier of one mail was held against a cache of these bytes, and added if it is new
pub data Holds (name : List ℕ) (most : ℕ) (bytes : List ℕ) (id : Option (List ℕ)) (written : Written) (before after : HostView) : Type 0 where
  no_id : id ≡ None → AsksNothing written before after → Holds name most bytes id written before after
  known_id : (line : List ℕ) → id ≡ Some line → is_seen bytes line ≡ true → AsksNothing written before after
      → Holds name most bytes id written before after
  new_id : (line : List ℕ) → id ≡ Some line → is_seen bytes line ≡ false → AddsId name most bytes line written before after
      → Holds name most bytes id written before after

-- after a mail that went well come the others, and after another end nothing
abbrev pub Onward : Written → Type 0 → Written → HostView → HostView → Type 0
Onward Done others written before after = others
Onward stop others written before after = (written ≡ stop) × (after ≡ before)

-- the identifiers of some mails were held against the cache in order, each against those before it too, up to the first
-- that couldn't be added
abbrev pub HoldsAll : List ℕ → ℕ → List ℕ → List (Option (List ℕ)) → Written → HostView → HostView → Type 0
HoldsAll name most bytes [] written before after = AsksNothing written before after
HoldsAll name most bytes (id ∷ ids) written before after =
    (first : Written) × (middle : HostView) × Holds name most bytes id first before middle
    × Onward first (HoldsAll name most (cache_after most bytes id) ids written middle after) written middle after
