-- What two spans of a run make, one after the other.
use Rattle.std.proofs.Common.{◌≡◌, ◌++◌, ap, ◌∙◌}
use Rattle.pm_host.proofs.RunsJoin.{tells_then}
use Rattle.pm_journal.specs.Entries.{after_entries}
use Rattle.pm_journal.specs.Laws.{AccountsJoin, EntriesMakeTree, FilesGrow, SpansGrow, TreesFollow}

pub spans_grow : AccountsJoin → FilesGrow → SpansGrow
spans_grow join grow first second a b c h k = grow (first ++ second) a c (join first second a b c h k)

pub trees_follow : EntriesMakeTree → TreesFollow
trees_follow make first second a b c h k =
    tells_then (λ w v. v ≡ after_entries first h.groups w) (λ w v. v ≡ after_entries second k.groups w) (λ w v. v ≡ after_entries second k.groups (after_entries first h.groups w))
    (λ u v w p q. q ∙ ap (after_entries second k.groups) p) a.host.world b.host.world c.host.world (make first a b h) (make second b c k)
