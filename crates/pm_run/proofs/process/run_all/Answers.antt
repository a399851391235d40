use Rattle.std.proofs.Common.{sym, subst}
use Rattle.pm_journal.specs.Held.{Keeping}
use Rattle.pm_journal.proofs.WalkJoin.{gives_none}
use Rattle.pm_meaning.specs.FirstValues.{home_folder}
use Rattle.pm_meaning.specs.Minds.{mind_of}
use Rattle.pm_meaning.specs.Courses.{now_at, alone}
use Rattle.pm_meaning.specs.Running.{Arrived, Setting, home_by, step}
use Rattle.pm_meaning.proofs.Choices.{ok_map, err_map}
use Rattle.pm_run.specs.RunningOut.{MayRunOut}
use Rattle.pm_run.proofs.RunOutLemmas.{ran_out_at_once, ran_out_in_run, gave_up_by}
use Rattle.pm_run.proofs.OtherLemmas.{first_wants, all_ran, others_want, keeping_none}
use Rattle.pm_run.proofs.process.run_all.Goals as goal

pub invariant_of-run : goal.invariant_of-run
invariant_of-run g c =
    let kept = subst (Keeping c.arrive.new.idle.journal) (sym c.in-Ok.ensures.locks) (keeping_none _ c.arrive.new.idle.keeps) in
    record { keeps = kept.keeps; room = kept.room }

pub returns-in-Err-clause-memory : goal.returns-in-Err-clause-memory
returns-in-Err-clause-memory g c =
    let start = Arrived c.args.start.arrival.line c.args.start.arrival.env.now c.args.start.arrival.bytes in
    gave_up_by (now_at alone start) _ _ _ _ _ _ _
    (ran_out_in_run alone start _ _ _ _ (ran_out_at_once step MayRunOut start _ _ _ _ c.in-Err.ensures.carries.1 (λ more e. tt))) (gives_none _ _) (keeping_none _ c.args.start.idle.keeps) (keeping_none _ c.arrive.new.idle.keeps)

pub returns-clause-memory : goal.returns-clause-memory
returns-clause-memory g c =
    let line = c.args.start.arrival.line in
    let start = Arrived line c.args.start.arrival.env.now c.args.start.arrival.bytes in
    let setting = Setting line.values line (home_by line.values (home_folder c.args.start.arrival.env.now)) (mind_of c.in-Ok.process) in
    let began = c.in-Ok.ensures.carries.0 in
    first_wants c.new-queue.result c.run_first-ended.new.queue start setting _ _ _ _ _ _ c.new-queue.ensures.empty c.new-queue.ensures.none began
    _ _ _ (λ first. (rw c.in-Err-ended.is at c.run_first-ended.ensures.proceeds first).1) c.leave_process-outside.ensures.gives (keeping_none _ c.args.start.idle.keeps) (record { keeps = c.run_first-ended.new.run.keeps; room = c.run_first-ended.new.run.room })

pub returns-in-Ok-ended-clause-ok : goal.returns-in-Ok-ended-clause-ok
returns-in-Ok-ended-clause-ok g c =
    let line = c.args.start.arrival.line in
    let start = Arrived line c.args.start.arrival.env.now c.args.start.arrival.bytes in
    let setting = Setting line.values line (home_by line.values (home_folder c.args.start.arrival.env.now)) (mind_of c.in-Ok.process) in
    let began = c.in-Ok.ensures.carries.0 in
    ok_map c.run_copies.result.1.ended _ _ (λ end h. all_ran c.new-queue.result c.run_first-ended.new.queue start setting c.args.start.idle.journal c.arrive.new.idle.journal c.run_first-ended.new.run.journal _ _ _ c.new-queue.ensures.empty c.new-queue.ensures.none began
    c.in-Ok-ended.first (mind_of c.run_first-ended.new.run.process) c.leave_process-outside.result.counts c.leave_process-outside.result.idle.journal c.run_copies.result.1.idle.journal _ _ (λ first. (rw c.in-Ok-ended.is at c.run_first-ended.ensures.proceeds first).0) c.leave_process-outside.ensures.placed c.leave_process-outside.ensures.openings c.leave_process-outside.ensures.gives end h) c.run_copies.ensures.ok

pub returns-in-Ok-ended-clause-memory : goal.returns-in-Ok-ended-clause-memory
returns-in-Ok-ended-clause-memory g c =
    let line = c.args.start.arrival.line in
    let start = Arrived line c.args.start.arrival.env.now c.args.start.arrival.bytes in
    let setting = Setting line.values line (home_by line.values (home_folder c.args.start.arrival.env.now)) (mind_of c.in-Ok.process) in
    let began = c.in-Ok.ensures.carries.0 in
    err_map c.run_copies.result.1.ended _ _ (λ h. others_want c.new-queue.result c.run_first-ended.new.queue start setting c.args.start.idle.journal c.arrive.new.idle.journal c.run_first-ended.new.run.journal _ _ _ c.new-queue.ensures.empty c.new-queue.ensures.none began
    c.in-Ok-ended.first (mind_of c.run_first-ended.new.run.process) c.leave_process-outside.result.counts c.leave_process-outside.result.idle.journal c.run_copies.result.1.idle.journal _ _ (λ first. (rw c.in-Ok-ended.is at c.run_first-ended.ensures.proceeds first).0) c.leave_process-outside.ensures.placed c.leave_process-outside.ensures.openings c.leave_process-outside.ensures.gives (keeping_none _ c.args.start.idle.keeps) (keeping_none _ c.leave_process-outside.result.idle.keeps) h) c.run_copies.ensures.memory
