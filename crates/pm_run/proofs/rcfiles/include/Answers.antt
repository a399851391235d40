use Rattle.pm_journal.proofs.WantsMemory.{on_err}
use Rattle.pm_meaning.specs.Minds.{mind_of}
use Rattle.pm_meaning.specs.Running.{Including, included, step}
use Rattle.pm_meaning.proofs.Choices.{ok_map}
use Rattle.pm_run.specs.Frames.{items_of}
use Rattle.pm_run.specs.RunningOut.{MayRunOut}
use Rattle.pm_run.proofs.RunOutLemmas.{ran_out_at_once}
use Rattle.pm_run.proofs.RcfileLemmas.{none_included, none_falls, some_wants, some_included, some_falls}
use Rattle.pm_run.proofs.rcfiles.include.Goals as goal

pub returns-in-Err-clause-walks : goal.returns-in-Err-clause-walks
returns-in-Err-clause-walks g c =
    let items = items_of c.args.frame.now in
    (tt, ran_out_at_once step MayRunOut (Including c.args.name items (mind_of c.args.run.now.process)) _ _ _ _ (c.in-Err.ensures.memory items (included c.args.name items)) (λ more e. tt))

pub returns-in-None-clause-walks : goal.returns-in-None-clause-walks
returns-in-None-clause-walks g c =
    let p = mind_of c.args.run.now.process in
    let q = mind_of c.open_code.new.run.process in
    (none_included c.args.name (items_of c.args.frame.now) p q _ _ _ _ (rw c.in-None.is at c.in-Ok.ensures.opens), tt)

pub returns-in-None-clause-falls : goal.returns-in-None-clause-falls
returns-in-None-clause-falls g c =
    let opens = rw c.in-None.is at c.in-Ok.ensures.opens in
    none_falls c.args.run.now.process.openings c.open_code.new.run.process.openings c.args.frame.now opens.counted

pub returns-in-Some-clause-walks : goal.returns-in-Some-clause-walks
returns-in-Some-clause-walks g c =
    let f = c.args.frame.now in
    let p = mind_of c.args.run.now.process in
    let q = mind_of c.open_code.new.run.process in
    let r = mind_of c.go_into.new.process in
    let opens = rw c.in-Some.is at c.in-Ok.ensures.opens in (
      ok_map c.go_into.result _ _ (λ _ into. some_included c.args.name c.in-Some.code f p q _ _ _ _ opens c.go_into.new.frame r into) c.go_into.ensures.into,
      on_err c.go_into.result _ (some_wants c.args.name c.in-Some.code f p q _ _ _ _ opens),
    )

pub returns-in-Some-clause-falls : goal.returns-in-Some-clause-falls
returns-in-Some-clause-falls g c =
    let f = c.args.frame.now in
    let p = mind_of c.args.run.now.process in
    let q = mind_of c.open_code.new.run.process in
    let r = mind_of c.go_into.new.process in
    let opens = rw c.in-Some.is at c.in-Ok.ensures.opens in
    ok_map c.go_into.result _ _ (λ _ into. some_falls c.args.name c.in-Some.code f p q _ _ _ _ opens c.go_into.new.frame r into) c.go_into.ensures.into
