-- Why an rcfile of this length isn't read. Memory can be wanting for one that isn't too long.
use Rattle.std.specs.Prelude.{ℕ, ◌<◌, ◌≤◌, ◌≡◌}
use Rattle.pm_recipe.specs.declared.reader.RcRefused.{RcRefused}
use Rattle.pm_recipe.specs.declared.reader.RcRefused.TheVariants.{TooLong, Memory}

-- the greatest length of an rcfile, 1 MiB
abbrev pub most_length : ℕ
most_length = 1048576

-- it is too long, and this is its length, or memory was wanting
abbrev pub IsRefusal : ℕ → RcRefused → Type 0
IsRefusal size (TooLong length) = (most_length < size) × (length ≡ size)
IsRefusal size Memory = size ≤ most_length
