use Rattle.std.proofs.Common.{◌≡◌, ◌++◌, length}
use Rattle.check_moving.specs.Words.{words_from, words_of}
use Rattle.check_moving.proofs.words.words.Given as goal

abbrev pub invariant-loop-byte : goal.invariant-loop-byte
invariant-loop-byte l = l.words.items ++ words_from l.quote l.word l.rest ≡ words_of l.initial.text

abbrev pub decreases-loop-byte : goal.decreases-loop-byte
decreases-loop-byte l = length l.rest
