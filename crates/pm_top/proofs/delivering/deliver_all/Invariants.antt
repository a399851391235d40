use Rattle.std.proofs.Common.{◌≡◌}
use Rattle.pm_host.specs.declared.answers.Child.TheVariants.{NoChild}
use Rattle.pm_journal.specs.Entries.{view_of}
use Rattle.pm_top.proofs.RunLemmas.{Counted}
use Rattle.pm_top.proofs.delivering.deliver_all.Given as goal

abbrev pub invariant-loop-number : goal.invariant-loop-number
invariant-loop-number g l = record {
  runs : Counted l.env l.number l.totals
      (view_of (g.H.Host.told l.fn.host) (g.O.Sink.told l.fn.out) (g.E.Sink.told l.fn.err))
      (view_of (g.H.Host.told l.host) (g.O.Sink.told l.out) (g.E.Sink.told l.err));
  no_child : (g.H.Host.told l.host).child ≡ NoChild;
}
