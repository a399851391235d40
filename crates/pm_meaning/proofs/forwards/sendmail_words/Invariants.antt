use Rattle.std.proofs.Common.{◌≡◌, ◌++◌}
use Rattle.pm_meaning.specs.Forwards.{sendmail_words}
use Rattle.pm_meaning.proofs.forwards.sendmail_words.Given as goal

abbrev pub invariant-loop-address : goal.invariant-loop-address
invariant-loop-address l = l.words.items ++ l.address-iterator.rest.items ≡ sendmail_words l.vars ++ l.fn.addresses.items
