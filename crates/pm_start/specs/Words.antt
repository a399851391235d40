-- The words of a program, by the arguments that it is started with.
use Rattle.std.specs.Prelude.{◌≡◌, ◌≢◌, ℕ, List, map, string_bytes}
use Rattle.std.specs.IoError.{error_kind}
use Rattle.std.specs.declared.io.Error.{Error}
use Rattle.std.specs.declared.io.ErrorKind.TheVariants.{OutOfMemory}
use Rattle.pm_start.specs.declared.words.Words.{Words}
use Rattle.pm_start.specs.declared.words.Words.TheVariants.{Read, NoText, Memory}

-- these words were read, or memory ran out
abbrev pub AreRead : List (List ℕ) → Words → Type 0
AreRead arguments (Read words) = map string_bytes words.items ≡ arguments
AreRead arguments NoText = ⊥
AreRead arguments Memory = Unit {0}

-- no words were read: memory ran out, and else one of them isn't UTF-8
abbrev pub AreRefused : Error → Words → Type 0
AreRefused error (Read words) = ⊥
AreRefused error NoText = error_kind error ≢ OutOfMemory
AreRefused error Memory = error_kind error ≡ OutOfMemory
