-- Answers before others.
use Rattle.std.proofs.Common.{List, [], ◌++◌, Option, Some, None}
use Rattle.test_text.specs.declared.answer.Answer.{Answer}

-- these, and then those
abbrev pub before : List Answer → Option (List Answer) → Option (List Answer)
before made None = None
before made (Some later) = Some (made ++ later)
