use Rattle.std.proofs.Common.{◌≡◌, ◌≤◌, ◌+◌, take, drop, length, vec_capacity}
use Rattle.pm_host.specs.declared.answers.Child.TheVariants.{NoChild}
use Rattle.formail_split.specs.Children.{EachRan}
use Rattle.formail_split.proofs.children.feed_texts.Given as goal

abbrev pub invariant-loop-text : goal.invariant-loop-text
invariant-loop-text g l = record {
  fed : EachRan l.command (take l.text-index l.texts) l.rans.items (g.H.Host.told l.fn.host) (g.H.Host.told l.host);
  none : (g.H.Host.told l.host).child ≡ NoChild;
  space : length l.rans.items + length (drop l.text-index l.texts) ≤ vec_capacity l.rans;
}
