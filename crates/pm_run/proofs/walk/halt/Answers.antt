use Rattle.std.proofs.Common.{◌≤◌, ◌-◌, ap, arith}
use Rattle.pm_meaning.specs.Minds.{mind_of}
use Rattle.pm_meaning.specs.declared.process.End.TheVariants.{HostOff}
use Rattle.pm_meaning.specs.Running.{Leaving, left_by}
use Rattle.pm_meaning.proofs.Choices.{ok_map}
use Rattle.pm_run.specs.Frames.{all_locks, left_over}
use Rattle.pm_run.proofs.LeaveLemmas.{halts_over, halts_off}
use Rattle.pm_run.proofs.RunLemmas.{walks_on}
use Rattle.pm_run.proofs.WalkLemmas.{falls_from}
use Rattle.pm_run.proofs.walk.halt.Goals as goal

pub returns-in-HostOff-clause-walks : goal.returns-in-HostOff-clause-walks
returns-in-HostOff-clause-walks g c =
    let start = Leaving (all_locks c.args.frame.now) c.args.end (mind_of c.args.run.now.process) in
    let left = left_by HostOff (mind_of c.leave_blocks.new.run.process) in
    let off = halts_off start c.args.end (mind_of c.leave_blocks.new.run.process) c.args.run.now.journal c.leave_blocks.new.run.journal (g.D.Asks.told c.args.run.now.outside) (g.D.Asks.told c.leave_blocks.new.run.outside) c.in-HostOff.is c.in_ok-leave_blocks.ensures.walks.0 in
    walks_on start left _ c.begin_later.result _ _ _ _ _ _ off c.begin_later.ensures.walks

pub returns-in-HostOff-clause-falls : goal.returns-in-HostOff-clause-falls
returns-in-HostOff-clause-falls g c =
    let count = c.args.run.now.process.openings in
    let before = left_over count c.args.frame.now in
    let middle = left_over c.leave_blocks.new.run.process.openings c.leave_blocks.new.frame in
    let left = left_over c.begin_later.new.run.process.openings c.begin_later.new.frame in
    let less : middle ≤ before = omega (arith, ap (λ n. 256 - n) c.leave_blocks.ensures.count, c.leave_blocks.ensures.left) in
    ok_map c.begin_later.result _ _ (λ flow h. falls_from flow left middle before h less) c.begin_later.ensures.falls

pub returns-in_default-clause-walks : goal.returns-in_default-clause-walks
returns-in_default-clause-walks g c =
    let start = Leaving (all_locks c.args.frame.now) c.args.end (mind_of c.args.run.now.process) in
    (halts_over start c.args.end (mind_of c.leave_blocks.new.run.process) _ _ _ _ c.in_default.not-HostOff c.in_ok-leave_blocks.ensures.walks.0, tt)
