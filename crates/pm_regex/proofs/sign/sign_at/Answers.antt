use Rattle.std.proofs.Common.{◌<◌, length, lit<, sym, arith}
use Rattle.std.proofs.lemmas.Bool.{eqb-false}
use Rattle.pm_regex.proofs.TokenLemmas.{plain_there}
use Rattle.pm_regex.proofs.sign.sign_at.Goals as goal

pub returns-clause-some : goal.returns-clause-some
returns-clause-some c =
    let text = c.args.text.now in
    let ne = eqb-false (length text) 0 (sym c.if-is_empty.ensures) in
    let some : 0 < length text = omega (arith, ne) in
    record {
      some = lit< tt;
      within = some;
      token = plain_there text c.in_ok-sign.sign some (sym c.in_ok-sign.ensures);
    }
