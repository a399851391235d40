-- What an expansion gives.
use Rattle.std.specs.Prelude.{◌≡◌, ℕ, true, false, List}
use Rattle.pm_vars.specs.Table.{Table}
use Rattle.pm_subst.specs.Words.{words_in}
use Rattle.pm_subst.specs.declared.kinds.Mode.{Mode}
use Rattle.pm_meaning.specs.Turns.{is_too_long, length_in}
use Rattle.pm_meaning.specs.declared.expanding.Expansion.{Expansion}
use Rattle.pm_meaning.specs.declared.expanding.Expansion.TheVariants.{Words, TooLong}

-- the words of a text with these outputs of its commands, or its length where that is too much
abbrev pub IsExpansion : Mode → List ℕ → Table → List (List ℕ) → Expansion → Type 0
IsExpansion mode text vars outputs (Words words) = (is_too_long mode text vars outputs ≡ false) × (words.items ≡ words_in mode vars outputs text)
IsExpansion mode text vars outputs (TooLong length) = (is_too_long mode text vars outputs ≡ true) × (length ≡ length_in mode text vars outputs)
