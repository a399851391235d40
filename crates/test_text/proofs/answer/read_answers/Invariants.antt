use Rattle.std.proofs.Common.{◌≡◌}
use Rattle.test_text.specs.Answers.{answers_of}
use Rattle.test_text.proofs.Joined.{before}
use Rattle.test_text.proofs.answer.read_answers.Given as goal

abbrev pub invariant-loop-piece : goal.invariant-loop-piece
invariant-loop-piece l = before l.made.items (answers_of l.piece-iterator) ≡ answers_of l.fn.pieces
