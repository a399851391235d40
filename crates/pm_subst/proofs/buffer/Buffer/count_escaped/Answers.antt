use Rattle.std.proofs.Common.{refl, arith}
use Rattle.pm_subst.proofs.Counted.{holds-escaped}
use Rattle.pm_subst.proofs.buffer.Buffer.count_escaped.Goals as goal

pub returns-clause-holds : goal.returns-clause-holds
returns-clause-holds c = λ fields h. holds-escaped c.args.quoted c.args.bytes.now c.args.self.now c.push_value.new.self _ fields
    c.requires.over h (c.in_ok-push_value.ensures.holds fields h) c.in_ok-push_value.ensures.splits refl refl
    (omega (arith, c.saturating_add-self.ensures, c.operators.ensures))
