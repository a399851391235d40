use Rattle.std.proofs.Common.{◌≡◌, ◌++◌, drop}
use Rattle.explain_mails.specs.Words.{steps_up}
use Rattle.explain_mails.proofs.words.push_steps_up.Given as goal

abbrev pub invariant-loop-byte : goal.invariant-loop-byte
invariant-loop-byte l = l.word ++ steps_up (drop l.byte-index l.folder) ≡ l.fn.word ++ steps_up l.folder
