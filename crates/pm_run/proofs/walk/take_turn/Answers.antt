use Rattle.std.proofs.Common.{◌+◌, arith, rules}
use Rattle.pm_journal.proofs.WantsMemory.{on_err}
use Rattle.pm_journal.proofs.WalkJoin.{reaches_itself}
use Rattle.pm_meaning.specs.Minds.{mind_of}
use Rattle.pm_meaning.specs.Running.{Running, step}
use Rattle.pm_meaning.proofs.Choices.{ok_map}
use Rattle.pm_run.specs.Frames.{items_of, left_over}
use Rattle.pm_run.proofs.WalkLemmas.{falls_from}
use Rattle.pm_run.proofs.walk.take_turn.Goals as goal

pub returns-in-Goes-clause-walks : goal.returns-in-Goes-clause-walks
returns-in-Goes-clause-walks g c = rw c.in-Goes.is (reaches_itself step (Running (items_of c.args.frame.now) (mind_of c.args.run.now.process)) _ _, tt)

pub returns-in-Halts-clause-walks : goal.returns-in-Halts-clause-walks
returns-in-Halts-clause-walks g c = rw c.in-Halts.is c.halt.ensures.walks

pub returns-in-Halts-clause-falls : goal.returns-in-Halts-clause-falls
returns-in-Halts-clause-falls g c =
    let before = left_over c.args.run.now.process.openings c.args.frame.now in
    let left = left_over c.halt.new.run.process.openings c.halt.new.frame in
    ok_map c.halt.result _ _ (λ flow h. falls_from flow left before (before + 1) h (omega arith)) c.halt.ensures.falls

pub returns-in_err-include-in-Includes-clause-walks : goal.returns-in_err-include-in-Includes-clause-walks
returns-in_err-include-in-Includes-clause-walks g c = rw c.in-Includes.is (search rules, on_err _ _ c.in_err-include-in-Includes.ensures.walks.1)

pub returns-in_ok-include-in-Includes-clause-walks : goal.returns-in_ok-include-in-Includes-clause-walks
returns-in_ok-include-in-Includes-clause-walks g c = rw c.in-Includes.is (c.in_ok-include-in-Includes.ensures.walks.0, tt)

pub returns-in_err-switch-in-Switches-clause-walks : goal.returns-in_err-switch-in-Switches-clause-walks
returns-in_err-switch-in-Switches-clause-walks g c = rw c.in-Switches.is (search rules, on_err _ _ c.in_err-switch-in-Switches.ensures.walks.1)

pub returns-in_ok-switch-in-Switches-clause-walks : goal.returns-in_ok-switch-in-Switches-clause-walks
returns-in_ok-switch-in-Switches-clause-walks g c = rw c.in-Switches.is (c.in_ok-switch-in-Switches.ensures.walks.0, tt)

pub returns-in_err-end_file-in-EndsFile-clause-walks : goal.returns-in_err-end_file-in-EndsFile-clause-walks
returns-in_err-end_file-in-EndsFile-clause-walks g c = rw c.in-EndsFile.is (search rules, on_err _ _ c.in_err-end_file-in-EndsFile.ensures.walks.1)

pub returns-in_ok-end_file-in-EndsFile-clause-walks : goal.returns-in_ok-end_file-in-EndsFile-clause-walks
returns-in_ok-end_file-in-EndsFile-clause-walks g c = rw c.in-EndsFile.is (c.in_ok-end_file-in-EndsFile.ensures.walks.0, tt)
