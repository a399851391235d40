use Rattle.std.proofs.Common.{lit<}
use Rattle.pm_regex.proofs.TokenLemmas.{escaped_there}
use Rattle.pm_regex.proofs.sign.escaped_at.Goals as goal

pub returns-clause-some : goal.returns-clause-some
returns-clause-some c = record {
  some = lit< tt;
  within = c.if-text-lt2.false;
  token = rw c.escaped_sign.ensures (escaped_there c.args.text.now c.requires c.if-text-lt2.false);
}
