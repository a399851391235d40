use Rattle.std.proofs.Common.{◌+◌, List, refl}
use Rattle.pm_meaning.specs.Changes.{with_openings}
use Rattle.pm_meaning.specs.Minds.{mind_of}
use Rattle.pm_meaning.specs.Running.{Item, Reading}
use Rattle.pm_meaning.proofs.Choices.{ok_map, err_map}
use Rattle.pm_run.proofs.RcfileLemmas.{ok_both, ok_every, err_every, many_told, many_out, opens_by, opens_out, is_many, is_few}
use Rattle.pm_run.proofs.rcfiles.open_code.Goals as goal

pub returns-then-run-ge256-clause-opens : goal.returns-then-run-ge256-clause-opens
returns-then-run-ge256-clause-opens g c =
    let e = is_many c.args.run.now.process.openings c.if-run-ge256.true in
    rw c.tell_many.ensures.same (ok_both c.tell_many.result _ _ _ (λ code told none. many_told c.args.name.now (mind_of c.args.run.now.process) _ _ _ _ e code none told)
    (ok_every c.tell_many.result _ (λ next. (c.tell_many.ensures.carries next).0)) c.tell_many.ensures.none)

pub returns-then-run-ge256-clause-memory : goal.returns-then-run-ge256-clause-memory
returns-then-run-ge256-clause-memory g c =
    let e = is_many c.args.run.now.process.openings c.if-run-ge256.true in
    err_map c.tell_many.result _ _ (λ told (rest : List Item) (go : Reading). many_out c.args.name.now (mind_of c.args.run.now.process) rest go _ _ _ _ e told)
    (err_every c.tell_many.result _ (λ next. (c.tell_many.ensures.carries next).1))

pub returns-clause-opens : goal.returns-clause-opens
returns-clause-opens g c =
    let p = mind_of c.args.run.now.process in
    let few = is_few p.openings c.if-run-ge256.false in
    rw c.read_code.ensures.same (ok_map c.read_code.result _ _ (λ code h. opens_by c.args.name.now code p (with_openings (p.openings + 1) p) _ _ _ _ few.0 few.1 refl h) c.read_code.ensures.reads)

pub returns-clause-memory : goal.returns-clause-memory
returns-clause-memory g c =
    let p = mind_of c.args.run.now.process in
    let few = is_few p.openings c.if-run-ge256.false in
    err_map c.read_code.result _ _ (λ h (rest : List Item) (go : Reading). opens_out c.args.name.now p (with_openings (p.openings + 1) p) rest go _ _ _ _ few.0 refl (h rest go)) c.read_code.ensures.memory
