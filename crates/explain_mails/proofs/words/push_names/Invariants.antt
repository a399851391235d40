use Rattle.std.proofs.Common.{◌≡◌, ◌++◌, drop}
use Rattle.explain_mails.proofs.words.push_names.Given as goal

abbrev pub invariant-loop-name : goal.invariant-loop-name
invariant-loop-name l = l.words.items ++ drop l.name-index l.names ≡ l.fn.words.items ++ l.names
