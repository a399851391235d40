-- The words of a trial.
use Rattle.std.specs.Prelude.{ℕ, ◌&&◌, List, [], ◌∷◌, length, nat_le, bytes_eq, codes, Option, Some, None, option_and_then, if◌then◌else◌}
use Rattle.pm_bytes.specs.Number.{count_of}

-- from 1 to 2,000 messages
abbrev pub in_range : ℕ → Option ℕ
in_range count = if nat_le 1 count && nat_le count 2000 then Some count else None

-- a number in that range, written by 1 to 4 digits
abbrev pub count_in : List ℕ → Option ℕ
count_in text = if nat_le (length text) 4 then option_and_then in_range (count_of text) else None

-- how many messages the words `--trial N` ask for; all other words ask for no trial
abbrev pub trial_count : List (List ℕ) → Option ℕ
trial_count (option ∷ number ∷ []) = if bytes_eq option (codes "--trial") then count_in number else None
trial_count other = None
