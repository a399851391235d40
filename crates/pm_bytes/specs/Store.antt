-- The bytes of a list that may share its memory.
use Rattle.std.specs.Prelude.{ℕ, List}
use Rattle.pm_bytes.specs.declared.bytes.Store.{Store}
use Rattle.pm_bytes.specs.declared.bytes.Store.TheVariants.{Own, Shared}

-- its own, or those that it shares
abbrev pub stored : Store → List ℕ
stored (Own own) = own.items
stored (Shared shared) = shared
