use Rattle.std.proofs.Common.{◌≡◌, [], drop}
use Rattle.check_fix.specs.Fed.{colon_before}
use Rattle.check_fix.proofs.fed.colon_before.Given as goal

abbrev pub invariant-loop-span : goal.invariant-loop-span
invariant-loop-span l = colon_before l.place l.text (drop l.span-index l.all) ≡ colon_before l.place [] l.all
