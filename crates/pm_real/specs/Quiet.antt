-- What the objects of a machine tell: their counts of faults, and whether a child runs.
use Rattle.std.specs.Prelude.{◌≡◌, ℕ, List, take, Option, None}
use Rattle.std.specs.Io.KnownBytes.{Consumes, Appends, Keeps, IsAtEnd}
use Rattle.pm_host.specs.declared.answers.Got.{Got}
use Rattle.pm_host.specs.declared.answers.Got.TheVariants.{Got as GotSome, Failed as GotFailed}
use Rattle.pm_host.specs.declared.answers.Took.{Took}
use Rattle.pm_host.specs.declared.answers.Took.TheVariants.{Took as TookSome, Failed as TookFailed}
use Rattle.pm_host.specs.Told.{HostView}
use Rattle.pm_host.specs.Streams.{StreamView}
use Rattle.pm_host.specs.declared.answers.Child.{Child}

-- a host that tells its count of faults and whether a child runs, and nothing of its files and calls
abbrev pub quiet_host : ℕ → Child → HostView
quiet_host faults child = record { world = None; calls = None; faults = faults; child = child }

-- a stream that tells its count of faults alone
abbrev pub quiet_stream : ℕ → StreamView
quiet_stream faults = record { bytes = None; faults = faults }

-- what came is what the reader gave, where its bytes are known; nothing came only at their end, and a failed read took
-- none of them
abbrev pub Passes : Got → List ℕ → Option (List ℕ) → Option (List ℕ) → Type 0
Passes (GotSome n) room old new = Consumes old new (take n room) × (n ≡ 0 → IsAtEnd new)
Passes GotFailed room old new = Keeps old new

-- what was taken is what the writer was given, where its bytes are known, and a failed write added none to them
abbrev pub Sends : Took → List ℕ → Option (List ℕ) → Option (List ℕ) → Type 0
Sends (TookSome n) piece old new = Appends old new (take n piece)
Sends TookFailed piece old new = Keeps old new
