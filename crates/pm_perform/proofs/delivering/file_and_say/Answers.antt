use Rattle.std.proofs.Common.{refl, rules, ◌++◌, ap, ◌∙◌}
use Rattle.pm_journal.specs.Executed.{Executes}
use Rattle.pm_journal.proofs.WantsMemory.{on_err, out_anywhere, out_front}
use Rattle.pm_meaning.specs.Delivering.{attempt, after_attempt, say_each, attempt_lines}
use Rattle.pm_meaning.specs.Minds.{mind_of}
use Rattle.pm_perform.specs.Copies.{attempted_of}
use Rattle.pm_meaning.specs.Apart.{acted_with}
use Rattle.pm_meaning.proofs.Choices.{ok_map, err_map}
use Rattle.pm_meaning.proofs.Choices.{carried}
use Rattle.pm_perform.proofs.DeliverLemmas.{said_after, attempt_then, attempt_then_out}
use Rattle.pm_meaning.specs.Abstracts.{copy_lines}
use Rattle.pm_perform.proofs.CalmLemmas.{calm_none, calm_out, calm_each}
use Rattle.pm_perform.proofs.FoundLemmas.{grown_out}
use Rattle.pm_perform.proofs.SureLemmas.{attempt_sure, attempt_quiet, sure_told, told_some, copy_some, lines_some, err_both}
use Rattle.pm_perform.proofs.delivering.file_and_say.Goals.{in-None+in_ok-attempt-in-None, in-Some+in_ok-attempt-in-Some}
use Rattle.pm_perform.proofs.delivering.file_and_say.Goals as goal

pub returns-in_err-attempt-in-None-clause-carries : goal.returns-in_err-attempt-in-None-clause-carries
returns-in_err-attempt-in-None-clause-carries g c =
    let p = mind_of c.args.run.now.process in
    (search rules, on_err _ _ (out_front (attempt c.args.lock c.args.order.now.flags c.args.destinations.now p) (after_attempt c.args.order.now.flags c.args.order.now.text.now) c.args.run.now.journal c.file_all.new.run.journal (g.D.Asks.told c.args.run.now.outside) (g.D.Asks.told c.file_all.new.run.outside) (rw c.in-None.is c.in_err-attempt-in-None.ensures.carries.1)))

pub returns-in_err-attempt-in-Some-clause-carries : goal.returns-in_err-attempt-in-Some-clause-carries
returns-in_err-attempt-in-Some-clause-carries g c =
    let p = mind_of c.args.run.now.process in
    (search rules, on_err _ _ (out_front (attempt c.args.lock c.args.order.now.flags c.args.destinations.now p) (after_attempt c.args.order.now.flags c.args.order.now.text.now) c.args.run.now.journal c.file_locked.new.run.journal (g.D.Asks.told c.args.run.now.outside) (g.D.Asks.told c.file_locked.new.run.outside) (rw c.in-Some.is c.in_err-attempt-in-Some.ensures.carries.1)))

pub returns-in_err-lines-clause-carries : goal.returns-in_err-lines-clause-carries
returns-in_err-lines-clause-carries g c =
    let tried : Executes (attempt c.args.lock c.args.order.now.flags c.args.destinations.now (mind_of c.args.run.now.process)) (attempted_of c.match-lock.attempt (mind_of c.match-lock.run.process)) c.args.run.now.journal c.match-lock.run.journal (g.D.Asks.told c.args.run.now.outside) (g.D.Asks.told c.match-lock.run.outside) =
    elim c.match-lock.branch [
      | in-None+in_ok-attempt-in-None w ↦ rw (w.in-None.is, w.run-is, w.attempt-is) w.in_ok-attempt-in-None.ensures.carries.0
      | in-Some+in_ok-attempt-in-Some w ↦ rw (w.in-Some.is, w.run-is, w.attempt-is) w.in_ok-attempt-in-Some.ensures.carries.0
    ] in
    let p = mind_of c.args.run.now.process in
    let done = attempted_of c.match-lock.attempt (mind_of c.match-lock.run.process) in
    (search rules, on_err _ _ (attempt_then_out c.args.order.now.flags c.args.lock c.args.order.now.text.now c.args.destinations.now p done _ c.match-lock.run.journal _ _ _ _ tried (out_anywhere _ _ _ _ refl)))

pub returns-in_err-push_copy-clause-carries : goal.returns-in_err-push_copy-clause-carries
returns-in_err-push_copy-clause-carries g c =
    let tried : Executes (attempt c.args.lock c.args.order.now.flags c.args.destinations.now (mind_of c.args.run.now.process)) (attempted_of c.match-lock.attempt (mind_of c.match-lock.run.process)) c.args.run.now.journal c.match-lock.run.journal (g.D.Asks.told c.args.run.now.outside) (g.D.Asks.told c.match-lock.run.outside) =
    elim c.match-lock.branch [
      | in-None+in_ok-attempt-in-None w ↦ rw (w.in-None.is, w.run-is, w.attempt-is) w.in_ok-attempt-in-None.ensures.carries.0
      | in-Some+in_ok-attempt-in-Some w ↦ rw (w.in-Some.is, w.run-is, w.attempt-is) w.in_ok-attempt-in-Some.ensures.carries.0
    ] in
    let p = mind_of c.args.run.now.process in
    let done = attempted_of c.match-lock.attempt (mind_of c.match-lock.run.process) in
    (search rules, on_err _ _ (attempt_then_out c.args.order.now.flags c.args.lock c.args.order.now.text.now c.args.destinations.now p done _ c.match-lock.run.journal _ _ _ _ tried (out_anywhere _ _ _ _ refl)))

pub returns-clause-carries : goal.returns-clause-carries
returns-clause-carries g c =
    let tried : Executes (attempt c.args.lock c.args.order.now.flags c.args.destinations.now (mind_of c.args.run.now.process)) (attempted_of c.match-lock.attempt (mind_of c.match-lock.run.process)) c.args.run.now.journal c.match-lock.run.journal (g.D.Asks.told c.args.run.now.outside) (g.D.Asks.told c.match-lock.run.outside) =
    elim c.match-lock.branch [
      | in-None+in_ok-attempt-in-None w ↦ rw (w.in-None.is, w.run-is, w.attempt-is) w.in_ok-attempt-in-None.ensures.carries.0
      | in-Some+in_ok-attempt-in-Some w ↦ rw (w.in-Some.is, w.run-is, w.attempt-is) w.in_ok-attempt-in-Some.ensures.carries.0
    ] in
    let p = mind_of c.args.run.now.process in
    let q = mind_of c.settle.new.process in
    let done = attempted_of c.match-lock.attempt (mind_of c.match-lock.run.process) in
    let said =
    carried (say_each q c.push_copy.new.lines.items (acted_with c.acted_by-acted.result q)) (after_attempt c.args.order.now.flags c.args.order.now.text.now done) _ _ _ _ _ _ (said_after c.args.order.now.flags c.args.order.now.text.now c.match-lock.attempt (mind_of c.match-lock.run.process) q c.in_ok-lines.lines.items _ c.is_done.result _ c.in_ok-push_copy.ensures.lines c.in_ok-lines.ensures.lines c.is_done.ensures c.settle.ensures.mind c.acted_by-acted.ensures) c.say_each.ensures.carries in (
      ok_map _ _ _ (λ end h. attempt_then c.args.order.now.flags c.args.lock c.args.order.now.text.now c.args.destinations.now p done (acted_with end (mind_of c.say_each.new.run.process)) c.args.run.now.journal c.match-lock.run.journal c.say_each.new.run.journal _ _ _ tried h) said.0,
      err_map _ _ _ (λ h. attempt_then_out c.args.order.now.flags c.args.lock c.args.order.now.text.now c.args.destinations.now p done c.args.run.now.journal c.match-lock.run.journal c.say_each.new.run.journal _ _ _ tried h) said.1,
    )

pub returns-in_err-attempt-in-None-clause-sure : goal.returns-in_err-attempt-in-None-clause-sure
returns-in_err-attempt-in-None-clause-sure g c =
    on_err _ _ (attempt_sure c.args.order.now.flags c.args.run.now.journal c.file_all.new.run.journal (grown_out _ c.args.run.now.journal c.file_all.new.run.journal _ _ c.in_err-attempt-in-None.ensures.carries.1) c.in_err-attempt-in-None.ensures.untouched)

pub returns-in_err-attempt-in-Some-clause-sure : goal.returns-in_err-attempt-in-Some-clause-sure
returns-in_err-attempt-in-Some-clause-sure g c =
    on_err _ _ (attempt_sure c.args.order.now.flags c.args.run.now.journal c.file_locked.new.run.journal (grown_out _ c.args.run.now.journal c.file_locked.new.run.journal _ _ c.in_err-attempt-in-Some.ensures.carries.1) c.in_err-attempt-in-Some.ensures.untouched)

pub returns-in_err-lines-clause-sure : goal.returns-in_err-lines-clause-sure
returns-in_err-lines-clause-sure g c =
    let tried : Executes (attempt c.args.lock c.args.order.now.flags c.args.destinations.now (mind_of c.args.run.now.process)) (attempted_of c.match-lock.attempt (mind_of c.match-lock.run.process)) c.args.run.now.journal c.match-lock.run.journal (g.D.Asks.told c.args.run.now.outside) (g.D.Asks.told c.match-lock.run.outside) =
    elim c.match-lock.branch [
      | in-None+in_ok-attempt-in-None w ↦ rw (w.in-None.is, w.run-is, w.attempt-is) w.in_ok-attempt-in-None.ensures.carries.0
      | in-Some+in_ok-attempt-in-Some w ↦ rw (w.in-Some.is, w.run-is, w.attempt-is) w.in_ok-attempt-in-Some.ensures.carries.0
    ] in
    let flags = c.args.order.now.flags in
    let text = c.args.order.now.text.now in
    let done = attempted_of c.match-lock.attempt (mind_of c.match-lock.run.process) in
    let x = c.args.run.now.journal in
    let y = c.match-lock.run.journal in
    let quiet = attempt_quiet flags text c.args.lock c.args.destinations.now (mind_of c.args.run.now.process) tried.more done tried.plays in
    let first = attempt_lines text c.match-lock.attempt in
    on_err _ _ (sure_told flags first x y y tried.more tried.entries quiet (calm_none flags y y refl) (λ final. told_some first c.in_err-lines.ensures.sure))

pub returns-in_err-push_copy-clause-sure : goal.returns-in_err-push_copy-clause-sure
returns-in_err-push_copy-clause-sure g c =
    let tried : Executes (attempt c.args.lock c.args.order.now.flags c.args.destinations.now (mind_of c.args.run.now.process)) (attempted_of c.match-lock.attempt (mind_of c.match-lock.run.process)) c.args.run.now.journal c.match-lock.run.journal (g.D.Asks.told c.args.run.now.outside) (g.D.Asks.told c.match-lock.run.outside) =
    elim c.match-lock.branch [
      | in-None+in_ok-attempt-in-None w ↦ rw (w.in-None.is, w.run-is, w.attempt-is) w.in_ok-attempt-in-None.ensures.carries.0
      | in-Some+in_ok-attempt-in-Some w ↦ rw (w.in-Some.is, w.run-is, w.attempt-is) w.in_ok-attempt-in-Some.ensures.carries.0
    ] in
    let flags = c.args.order.now.flags in
    let text = c.args.order.now.text.now in
    let done = attempted_of c.match-lock.attempt (mind_of c.match-lock.run.process) in
    let x = c.args.run.now.journal in
    let y = c.match-lock.run.journal in
    let quiet = attempt_quiet flags text c.args.lock c.args.destinations.now (mind_of c.args.run.now.process) tried.more done tried.plays in
    let first = attempt_lines text c.match-lock.attempt in
    on_err _ _ (sure_told flags first x y y tried.more tried.entries quiet (calm_none flags y y refl) (copy_some flags first c.in_err-push_copy.ensures.sure))

pub returns-clause-sure : goal.returns-clause-sure
returns-clause-sure g c =
    let tried : Executes (attempt c.args.lock c.args.order.now.flags c.args.destinations.now (mind_of c.args.run.now.process)) (attempted_of c.match-lock.attempt (mind_of c.match-lock.run.process)) c.args.run.now.journal c.match-lock.run.journal (g.D.Asks.told c.args.run.now.outside) (g.D.Asks.told c.match-lock.run.outside) =
    elim c.match-lock.branch [
      | in-None+in_ok-attempt-in-None w ↦ rw (w.in-None.is, w.run-is, w.attempt-is) w.in_ok-attempt-in-None.ensures.carries.0
      | in-Some+in_ok-attempt-in-Some w ↦ rw (w.in-Some.is, w.run-is, w.attempt-is) w.in_ok-attempt-in-Some.ensures.carries.0
    ] in
    let flags = c.args.order.now.flags in
    let text = c.args.order.now.text.now in
    let done = attempted_of c.match-lock.attempt (mind_of c.match-lock.run.process) in
    let x = c.args.run.now.journal in
    let y = c.match-lock.run.journal in
    let quiet = attempt_quiet flags text c.args.lock c.args.destinations.now (mind_of c.args.run.now.process) tried.more done tried.plays in
    let first = attempt_lines text c.match-lock.attempt in
    let q = mind_of c.settle.new.process in
    let all = c.push_copy.new.lines.items in
    let z = c.say_each.new.run.journal in
    let same = c.in_ok-push_copy.ensures.lines ∙ ap (λ l. l ++ copy_lines c.is_done.result flags q) c.in_ok-lines.ensures.lines in
    err_both c.say_each.result _ _ _ (λ some out. sure_told flags first x y z tried.more tried.entries quiet (calm_out flags (say_each q all (acted_with c.acted_by-acted.result q)) y z _ _ (calm_each flags q all (acted_with c.acted_by-acted.result q)) out)
    (lines_some flags c.is_done.result q all first same some)) c.say_each.ensures.sure c.say_each.ensures.carries.1
