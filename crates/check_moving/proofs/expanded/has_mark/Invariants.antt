use Rattle.std.proofs.Common.{◌≡◌, length}
use Rattle.check_moving.specs.Expanded.{has_mark}
use Rattle.check_moving.specs.declared.quotes.Quote.TheVariants.{Plain}
use Rattle.check_moving.proofs.expanded.has_mark.Given as goal

abbrev pub invariant-loop-byte : goal.invariant-loop-byte
invariant-loop-byte l = has_mark l.form l.quote l.rest ≡ has_mark l.form Plain l.initial.text

abbrev pub decreases-loop-byte : goal.decreases-loop-byte
decreases-loop-byte l = length l.rest
