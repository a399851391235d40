use Rattle.std.proofs.Common.{◌≡◌, true, map, take}
use Rattle.std.specs.List.{list_all}
use Rattle.pm_meaning.specs.Destinations.{destination_of, without_ending}
use Rattle.pm_meaning.specs.Texts.{is_file_text}
use Rattle.pm_meaning.proofs.destination_words.destinations.Given as goal

abbrev pub invariant-loop-word : goal.invariant-loop-word
invariant-loop-word l = (l.all.items ≡ map destination_of (take l.word-index l.words)) × (list_all (λ word. is_file_text (without_ending word)) (take l.word-index l.words) ≡ true)
