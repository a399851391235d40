use Rattle.std.proofs.Common.{subst}
use Rattle.pm_journal.specs.Walking.{Reaches}
use Rattle.pm_meaning.specs.Blocks.{begun_block}
use Rattle.pm_meaning.specs.Changes.{with_rcfile}
use Rattle.pm_meaning.specs.Minds.{mind_of}
use Rattle.pm_meaning.specs.Running.{Running, Switching, LeavingFile, switched, ahead, step, Event}
use Rattle.pm_meaning.proofs.Choices.{ok_map, err_map}
use Rattle.pm_run.specs.Frames.{items_of, outer_items, block_locks}
use Rattle.pm_run.specs.RunningOut.{MayRunOut}
use Rattle.pm_run.proofs.RunOutLemmas.{ran_out_at_once, ran_out_reached}
use Rattle.pm_run.proofs.RunLemmas.{reaches_on}
use Rattle.pm_run.proofs.RcfileLemmas.{ok_both, none_switched, none_falls, some_switched, place_taken, place_falls}
use Rattle.pm_run.proofs.rcfiles.switch.Goals as goal

pub returns-in-Err-clause-walks : goal.returns-in-Err-clause-walks
returns-in-Err-clause-walks g c =
    let items = items_of c.args.frame.now in
    (tt, ran_out_at_once step MayRunOut (Switching c.args.name items (mind_of c.args.run.now.process)) _ _ _ _ (c.in-Err.ensures.memory items (switched c.args.name items)) (λ more e. tt))

pub returns-in-None-clause-walks : goal.returns-in-None-clause-walks
returns-in-None-clause-walks g c =
    let p = mind_of c.args.run.now.process in
    let q = mind_of c.open_code.new.run.process in
    (none_switched c.args.name (items_of c.args.frame.now) p q _ _ _ _ (rw c.in-None.is at c.in-Ok.ensures.opens), tt)

pub returns-in-None-clause-falls : goal.returns-in-None-clause-falls
returns-in-None-clause-falls g c =
    let opens = rw c.in-None.is at c.in-Ok.ensures.opens in
    none_falls c.args.run.now.process.openings c.open_code.new.run.process.openings c.args.frame.now opens.counted

pub returns-in-Some-clause-walks : goal.returns-in-Some-clause-walks
returns-in-Some-clause-walks g c =
    let f = c.args.frame.now in
    let name = c.args.name in
    let code = c.in-Some.code in
    let p = mind_of c.args.run.now.process in
    let q = mind_of c.open_code.new.run.process in
    let r = mind_of c.take_place.new.run.process in
    let opens = rw c.in-Some.is at c.in-Ok.ensures.opens in
    let items = ahead opens.trees (outer_items f.outer.items) in
    let start = Switching name (items_of f) p in
    let middle = LeavingFile (block_locks f.blocks.items) items (begun_block (with_rcfile name q)) in
    let first = some_switched name code f p q c.args.run.now.journal c.open_code.new.run.journal (g.D.Asks.told c.args.run.now.outside) (g.D.Asks.told c.open_code.new.run.outside) opens in (
      ok_both c.take_place.result _ _ _ (λ _ h takes. subst (λ l. Reaches {X = Event} step start (Running l r) c.args.run.now.journal c.take_place.new.run.journal (g.D.Asks.told c.args.run.now.outside) (g.D.Asks.told c.take_place.new.run.outside))
          (place_taken name code f p q c.args.run.now.journal c.open_code.new.run.journal (g.D.Asks.told c.args.run.now.outside) (g.D.Asks.told c.open_code.new.run.outside) opens c.take_place.new.frame takes)
          (reaches_on step start middle (Running items r) _ _ _ _ _ _ first h)) (c.take_place.ensures.walks items).0 c.take_place.ensures.takes,
      err_map c.take_place.result _ _ (λ h. ran_out_reached step MayRunOut start middle _ _ _ _ _ _ first h) (c.take_place.ensures.walks items).1,
    )

pub returns-in-Some-clause-falls : goal.returns-in-Some-clause-falls
returns-in-Some-clause-falls g c =
    let opens = rw c.in-Some.is at c.in-Ok.ensures.opens in
    ok_map c.take_place.result _ _ (λ _ takes. place_falls c.args.name c.in-Some.code c.args.frame.now (mind_of c.args.run.now.process) (mind_of c.open_code.new.run.process) _ _ _ _ opens c.take_place.new.frame c.take_place.new.run.process.openings c.take_place.ensures.count takes) c.take_place.ensures.takes
