use Rattle.std.proofs.Common.{◌<◌, length, arith}
use Rattle.pm_subst.proofs.Counted.{holds-text}
use Rattle.pm_subst.proofs.buffer.Buffer.push_text.Goals as goal

pub returns-clause-holds : goal.returns-clause-holds
returns-clause-holds c = λ fields h. let some : 0 < length c.args.bytes.now = omega arith in
    let added = c.in_ok-add.ensures in
    holds-text c.begin.new.self c.add.new.self fields c.args.bytes.now some (c.begin.ensures.holds fields h)
    added.same.0 added.same.1 added.length added.done added.current c.args.self.now.splits
