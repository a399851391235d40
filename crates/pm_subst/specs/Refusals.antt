-- Why a text of this length of expansion is refused. Want of memory is free.
use Rattle.std.specs.Prelude.{ℕ, ◌^◌, ◌-◌, ◌<◌, ◌≡◌, min}
use Rattle.pm_subst.specs.declared.expansion.ExpandRefused.{ExpandRefused}
use Rattle.pm_subst.specs.declared.expansion.ExpandRefused.TheVariants.{Overflow, Memory}
use Rattle.pm_subst.specs.Fields.{most_length}

-- it is longer than the greatest length, and this is its length, or memory was wanting
abbrev pub IsRefusal : ℕ → ExpandRefused → Type 0
IsRefusal size (Overflow length) = (most_length < size) × (length ≡ min size (2 ^ 64 - 1))
IsRefusal size Memory = Unit {0}
