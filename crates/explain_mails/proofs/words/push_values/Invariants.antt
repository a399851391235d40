use Rattle.std.proofs.Common.{◌≡◌, ◌++◌, drop, map}
use Rattle.explain_mails.specs.Words.{value_word}
use Rattle.explain_mails.proofs.words.push_values.Given as goal

abbrev pub invariant-loop-pair : goal.invariant-loop-pair
invariant-loop-pair l = l.words.items ++ map value_word (drop l.pair-index l.values) ≡ l.fn.words.items ++ map value_word l.values
