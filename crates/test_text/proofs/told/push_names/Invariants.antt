use Rattle.std.proofs.Common.{◌≡◌, ◌++◌, drop}
use Rattle.test_text.specs.Told.{listed}
use Rattle.test_text.proofs.told.push_names.Given as goal

abbrev pub invariant-loop-name : goal.invariant-loop-name
invariant-loop-name l = l.text ++ listed (drop l.name-index l.names) ≡ l.fn.text ++ listed l.names
