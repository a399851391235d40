use Rattle.std.proofs.Common.{◌≡◌, true, take}
use Rattle.std.specs.List.{list_all}
use Rattle.pm_bytes.specs.Name.{is_usable}
use Rattle.pm_meaning.proofs.programs.all_usable.Given as goal

abbrev pub invariant-loop-word : goal.invariant-loop-word
invariant-loop-word l = (l.names.items ≡ take l.word-index l.words) × (list_all is_usable (take l.word-index l.words) ≡ true)
