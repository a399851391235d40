use Rattle.std.proofs.Common.{◌≡◌, take}
use Rattle.pm_host.specs.declared.answers.Child.TheVariants.{NoChild}
use Rattle.formail_split.specs.Feeding.{FeedsEach}
use Rattle.formail_split.proofs.feeding.feed_each.Given as goal

abbrev pub invariant-loop-text : goal.invariant-loop-text
invariant-loop-text g l = record {
  fed : FeedsEach l.command (take l.text-index l.texts) l.worst (g.H.Host.told l.fn.host) (g.H.Host.told l.host);
  none : (g.H.Host.told l.host).child ≡ NoChild;
}
