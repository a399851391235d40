use Rattle.std.proofs.Common.{◌≡◌}
use Rattle.std.specs.List.{fold}
use Rattle.std.specs.Vec.Iter.{into_iter_items}
use Rattle.formail_top.specs.Asked.{nothing, asked}
use Rattle.formail_top.proofs.request.gather.Given as goal

abbrev pub invariant-loop-setting : goal.invariant-loop-setting
invariant-loop-setting l =
    fold asked l.request (into_iter_items l.setting-iterator) ≡ fold asked nothing l.fn.settings.items
