use Rattle.std.proofs.Common.{◌≡◌, ◌≤◌, ◌+◌, drop, count_by}
use Rattle.formail_top.specs.Asked.{is_skip}
use Rattle.formail_top.proofs.request.count_skips.Given as goal

abbrev pub invariant-loop-setting : goal.invariant-loop-setting
invariant-loop-setting l =
    (l.count ≤ l.setting-index) × (l.count + count_by is_skip (drop l.setting-index l.settings) ≡ count_by is_skip l.settings)
