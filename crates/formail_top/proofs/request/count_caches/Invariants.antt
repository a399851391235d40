use Rattle.std.proofs.Common.{◌≡◌, ◌≤◌, ◌+◌, drop, count_by}
use Rattle.formail_top.specs.Asked.{is_cache}
use Rattle.formail_top.proofs.request.count_caches.Given as goal

abbrev pub invariant-loop-setting : goal.invariant-loop-setting
invariant-loop-setting l =
    (l.count ≤ l.setting-index) × (l.count + count_by is_cache (drop l.setting-index l.settings) ≡ count_by is_cache l.settings)
