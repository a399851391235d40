use Rattle.std.proofs.Common.{List, refl}
use Rattle.pm_journal.specs.LogText.{couldnt_read_line}
use Rattle.pm_journal.specs.Plan.{and_then, ask}
use Rattle.pm_journal.specs.declared.acts.Act.TheVariants.{ReadFile}
use Rattle.pm_journal.proofs.WantsMemory.{on_err, out_anywhere}
use Rattle.pm_meaning.specs.Minds.{mind_of}
use Rattle.pm_meaning.specs.Running.{Item, Reading, with_statements}
use Rattle.pm_meaning.proofs.Choices.{ok_map, err_map}
use Rattle.pm_run.proofs.RcfileLemmas.{ok_both, ok_every, err_every, told_for, reads_some, reads_then_wants, reads_none, reads_none_out, reading_out}
use Rattle.pm_run.proofs.rcfiles.read_code.Goals as goal

pub returns-in-Err-clause-memory : goal.returns-in-Err-clause-memory
returns-in-Err-clause-memory g c = λ (rest : List Item) (go : Reading).
    out_anywhere (and_then (ask (ReadFile c.args.name.now)) (with_statements c.args.name.now rest (mind_of c.args.run.now.process) go)) _ _ _ refl

pub returns-in-Err-read-clause-memory : goal.returns-in-Err-read-clause-memory
returns-in-Err-read-clause-memory g c = λ (rest : List Item) (go : Reading).
    reading_out c.args.name.now c.in-Ok.noted rest (mind_of c.args.run.now.process) go _ _ _ _ c.in-Ok.ensures c.in-Err-read.ensures.memory

pub returns-in-None-clause-reads : goal.returns-in-None-clause-reads
returns-in-None-clause-reads g c =
    ok_both c.tell_unread.result _ _ _ (λ code told none. reads_none c.args.name.now c.in-Ok.noted c.in-Ok-read.content (mind_of c.args.run.now.process) c.args.run.now.journal c.read.new.self.journal _ _ c.in-Ok.ensures c.in-Ok-read.ensures.ok code _ _ c.in-None.is none told)
    (ok_every c.tell_unread.result _ (λ next. ((rw c.read.ensures.same at c.tell_unread.ensures.carries) next).0)) c.tell_unread.ensures.none

pub returns-in-None-clause-memory : goal.returns-in-None-clause-memory
returns-in-None-clause-memory g c =
    err_map c.tell_unread.result _ _ (λ told (rest : List Item) (go : Reading). reads_none_out c.args.name.now c.in-Ok.noted c.in-Ok-read.content (mind_of c.args.run.now.process) c.args.run.now.journal c.read.new.self.journal _ _ c.in-Ok.ensures c.in-Ok-read.ensures.ok rest go _ _ c.in-None.is (told_for rest (mind_of c.args.run.now.process) (couldnt_read_line c.args.name.now) c.read.new.self.journal c.tell_unread.new.run.journal _ _ told))
    (err_every c.tell_unread.result _ (λ next. ((rw c.read.ensures.same at c.tell_unread.ensures.carries) next).1))

pub returns-in-Some-clause-reads : goal.returns-in-Some-clause-reads
returns-in-Some-clause-reads g c =
    ok_map c.some_code.result _ _ (λ code w. reads_some c.args.name.now c.in-Ok.noted c.in-Ok-read.content (mind_of c.args.run.now.process) _ _ _ _ c.in-Ok.ensures c.in-Ok-read.ensures.ok c.in-Some.rc c.as_slice.result.now code c.in-Some.is c.as_slice.ensures w) c.some_code.ensures

pub returns-in-Some-clause-memory : goal.returns-in-Some-clause-memory
returns-in-Some-clause-memory g c =
    on_err c.some_code.result _ (λ (rest : List Item) (go : Reading). reads_then_wants c.args.name.now c.in-Ok.noted c.in-Ok-read.content (mind_of c.args.run.now.process) _ _ _ _ c.in-Ok.ensures c.in-Ok-read.ensures.ok rest go)
