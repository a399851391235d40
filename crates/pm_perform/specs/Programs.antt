-- How the line of a program is read.
use Rattle.std.specs.Prelude.{ℕ, List}
use Rattle.pm_meaning.specs.Forwards.{forward_reading}
use Rattle.pm_meaning.specs.Programs.{Reading, shell_reading, plain_reading}
use Rattle.pm_perform.specs.declared.pipes.Reading.{Reading as CodeReading}
use Rattle.pm_perform.specs.declared.pipes.Reading.TheVariants.{Shell, Plain, Forward}

-- how this text is read
abbrev pub reading_of : CodeReading → List ℕ → Reading
reading_of Shell text = shell_reading text
reading_of Plain text = plain_reading text
reading_of Forward text = forward_reading text
