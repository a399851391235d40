-- A source is read to its end.
use Rattle.std.specs.Prelude.{◌≡◌, ◌≤◌, ℕ, List, [], ◌++◌, length}
use Rattle.pm_host.specs.Told.{Tells}
use Rattle.pm_host.specs.Streams.{StreamView, Gives}
use Rattle.pm_host.specs.declared.answers.Got.TheVariants.{Failed as GotFailed}
use Rattle.pm_streams.specs.declared.reading.Part.{Part}
use Rattle.pm_streams.specs.declared.reading.Part.TheVariants.{More, End, Failed as PartFailed}
use Rattle.pm_streams.specs.declared.reading.Mail.{Mail}
use Rattle.pm_streams.specs.declared.reading.Mail.TheVariants.{Bytes, TooMany, Failed}

-- these bytes came off the front
abbrev pub TakesOff : List ℕ → List ℕ → List ℕ → Type 0
TakesOff part old new = old ≡ part ++ new

-- these bytes were left, and none is
abbrev pub IsDrained : List ℕ → List ℕ → List ℕ → Type 0
IsDrained bytes old new = (old ≡ bytes) × (new ≡ [])

-- the first 67,108,865 bytes came off the front, one more than a message may have
pub record IsTooMuch (old new : List ℕ) : Type 0 where
  pub taken : List ℕ
  pub off : old ≡ taken ++ new
  pub past : length taken ≡ 67108865

-- a source that tells counted no fault
abbrev pub NoFault : StreamView → StreamView → Type 0
NoFault before after = Tells (λ old new. after.faults ≡ before.faults) before.bytes after.bytes

-- the source was read to its end, and these bytes came, no more than a message may have
pub record Drained (bytes : List ℕ) (before after : StreamView) : Type 0 where
  pub within : length bytes ≤ 67108864
  pub came : Tells (IsDrained bytes) before.bytes after.bytes
  pub steady : NoFault before after

-- the source was read past the limit
pub record ReadPast (before after : StreamView) : Type 0 where
  pub came : Tells IsTooMuch before.bytes after.bytes
  pub steady : NoFault before after

-- bytes came, and then a read failed, which was the last
pub record StopsFailed (before after : StreamView) : Type 0 where
  pub part : List ℕ
  pub middle : StreamView
  pub came : Tells (TakesOff part) before.bytes middle.bytes
  pub later : before.faults ≤ middle.faults
  pub steady : NoFault before middle
  pub most : ℕ
  pub room : List ℕ
  pub failed : Gives most GotFailed room middle after

-- what the source did where its reading ended so
abbrev pub Drains : Mail → StreamView → StreamView → Type 0
Drains (Bytes bytes) before after = Drained bytes before after
Drains TooMany before after = ReadPast before after
Drains Failed before after = StopsFailed before after

-- some bytes came and were added
pub record ComesMore (most : ℕ) (old new : List ℕ) (before after : StreamView) : Type 0 where
  pub part : List ℕ
  pub added : new ≡ old ++ part
  pub some : 1 ≤ length part
  pub fits : length part ≤ most
  pub off : Tells (TakesOff part) before.bytes after.bytes
  pub later : before.faults ≤ after.faults
  pub steady : NoFault before after

-- nothing more came
pub record ComesEnd (old new : List ℕ) (before after : StreamView) : Type 0 where
  pub same : new ≡ old
  pub came : Tells (IsDrained []) before.bytes after.bytes
  pub steady : NoFault before after

-- the read failed
pub record FailsPart (most : ℕ) (before after : StreamView) : Type 0 where
  pub room : List ℕ
  pub failed : Gives most GotFailed room before after

-- what one read brought, and the bytes with it
abbrev pub PartCame : Part → ℕ → List ℕ → List ℕ → StreamView → StreamView → Type 0
PartCame More most old new before after = ComesMore most old new before after
PartCame End most old new before after = ComesEnd old new before after
PartCame PartFailed most old new before after = FailsPart most before after
