use Rattle.std.proofs.Common.{refl}
use Rattle.pm_journal.specs.Walking.{Reaches}
use Rattle.pm_journal.proofs.WantsMemory.{out_anywhere}
use Rattle.pm_meaning.specs.Blocks.{begun_block}
use Rattle.pm_meaning.specs.Changes.{with_rcfile}
use Rattle.pm_meaning.specs.Minds.{mind_of}
use Rattle.pm_meaning.specs.Running.{Running, LeavingFile, step, Event}
use Rattle.pm_run.specs.Frames.{block_locks}
use Rattle.pm_run.specs.RunningOut.{MayRunOut, RunsOut}
use Rattle.pm_run.proofs.RunOutLemmas.{ran_out_at_once}
use Rattle.pm_run.proofs.RcfileLemmas.{taken}
use Rattle.pm_run.proofs.rcfiles.take_place.Goals as goal

pub returns-in-Err-clause-walks : goal.returns-in-Err-clause-walks
returns-in-Err-clause-walks g c = λ items.
    let start = LeavingFile (block_locks c.args.frame.now.blocks.items) items (begun_block (with_rcfile c.args.name (mind_of c.args.run.now.process))) in
    (tt, ran_out_at_once step MayRunOut start _ _ _ _ (out_anywhere (step start) _ _ _ refl) (λ more e. tt))

pub returns-in-Err-leave_file-clause-walks : goal.returns-in-Err-leave_file-clause-walks
returns-in-Err-leave_file-clause-walks g c = λ items.
    let locks = block_locks c.args.frame.now.blocks.items in (
      tt,
      taken c.args.name (mind_of c.args.run.now.process) c.set_rcfile.new.self c.new_chain-run.result
          (λ m. RunsOut {X = Event} step MayRunOut (LeavingFile locks items m) c.args.run.now.journal c.leave_file.new.run.journal (g.D.Asks.told c.args.run.now.outside) (g.D.Asks.told c.leave_file.new.run.outside))
          c.in-Ok.ensures.ok c.new_chain-run.ensures (c.in-Err-leave_file.ensures.walks items).1,
    )

pub returns-in-Ok-leave_file-clause-walks : goal.returns-in-Ok-leave_file-clause-walks
returns-in-Ok-leave_file-clause-walks g c = λ items.
    let locks = block_locks c.args.frame.now.blocks.items in
    let end = Running items (mind_of c.leave_file.new.run.process) in (
      taken c.args.name (mind_of c.args.run.now.process) c.set_rcfile.new.self c.new_chain-run.result
          (λ m. Reaches {X = Event} step (LeavingFile locks items m) end c.args.run.now.journal c.leave_file.new.run.journal (g.D.Asks.told c.args.run.now.outside) (g.D.Asks.told c.leave_file.new.run.outside))
          c.in-Ok.ensures.ok c.new_chain-run.ensures (c.in-Ok-leave_file.ensures.walks items).0,
      tt,
    )

pub returns-in-Ok-leave_file-clause-takes : goal.returns-in-Ok-leave_file-clause-takes
returns-in-Ok-leave_file-clause-takes g c = record { code_is = refl; place = refl; blocks = c.in-Ok-leave_file.ensures.empty; outer = refl }
