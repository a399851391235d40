use Rattle.std.proofs.Common.{◌≡◌, ◌++◌, drop}
use Rattle.pm_meaning.specs.Forwards.{blank_words}
use Rattle.pm_meaning.proofs.ForwardLemmas.{words_on}
use Rattle.pm_meaning.proofs.forwards.push_words.Given as goal

abbrev pub invariant-loop-byte : goal.invariant-loop-byte
invariant-loop-byte l = l.fn.words.items ++ blank_words l.text ≡ l.words.items ++ words_on l.word.items (drop l.byte-index l.text)
