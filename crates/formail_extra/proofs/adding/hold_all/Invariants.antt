use Rattle.std.proofs.Common.{◌≡◌, ◌≤◌, ◌+◌, ◌++◌, drop, length, sum_by, vec_capacity}
use Rattle.pm_host.specs.Told.{HostView}
use Rattle.formail_extra.specs.Cache.{marks_of}
use Rattle.formail_extra.specs.Room.{space_for}
use Rattle.formail_extra.specs.Adding.{HoldsAll}
use Rattle.formail_extra.specs.declared.adding.Written.{Written}
use Rattle.formail_extra.proofs.adding.hold_all.Given as goal

abbrev pub invariant-loop-id : goal.invariant-loop-id
invariant-loop-id g l = record {
  holds : (written : Written) (after : HostView)
      → HoldsAll l.cache.name l.cache.most l.known.bytes.items (drop l.id-index l.ids) written (g.H.Host.told l.host) after
      → HoldsAll l.cache.name l.cache.most l.fn.known.bytes.items l.ids written (g.H.Host.told l.fn.host) after;
  kept : l.kept.items ++ (marks_of l.cache.most l.known.bytes.items (drop l.id-index l.ids)).kept
      ≡ l.fn.kept.items ++ (marks_of l.cache.most l.fn.known.bytes.items l.ids).kept;
  space : length l.known.bytes.items + sum_by space_for (drop l.id-index l.ids) ≤ vec_capacity l.known.bytes;
  places : length l.kept.items + length (drop l.id-index l.ids) ≤ vec_capacity l.kept;
  child : (g.H.Host.told l.host).child ≡ (g.H.Host.told l.fn.host).child;
}
