use Rattle.std.proofs.Common.{ap, ◌∙◌, refl, arith}
use Rattle.pm_top.specs.Words.{all_bytes}
use Rattle.pm_top.specs.Counting.{plus, totals_of}
use Rattle.pm_top.specs.Sources.{telling, left_of}
use Rattle.pm_top.proofs.MessageLemmas.{is_run}
use Rattle.pm_top.proofs.RunLemmas.{counted_none, counted_more}
use Rattle.pm_top.proofs.TrialLemmas.{gives_up_after, fails, succeeds, on_err}
use Rattle.pm_top.proofs.delivering.deliver_all.Goals as goal

pub loop-number-init : goal.loop-number-init
loop-number-init g c = record { runs = counted_none _ _ _ c.none-totals.ensures; no_child = c.requires.no_child }

pub returns-then-status-ne0-clause-ok : goal.returns-then-status-ne0-clause-ok
returns-then-status-ne0-clause-ok g c =
    let last = is_run _ c.loop-number.number (left_of c.deliver_mail-status.new.source) (omega arith) (ap all_bytes c.as_slice.ensures.value ∙ c.in_ok-words.ensures)
    (c.new-source.ensures ∙ ap telling c.in_ok-make_message.ensures) refl c.deliver_mail-status.ensures.promise in
    fails _ _ c.loop-number.number c.loop-number.totals _ _ _ c.loop-number-test.true c.loop-number.invariant.runs last refl c.if-status-ne0.true

pub returns-in_err-add-clause-memory : goal.returns-in_err-add-clause-memory
returns-in_err-add-clause-memory g c =
    let last = is_run _ c.loop-number.number (left_of c.deliver_mail-status.new.source) (omega arith) (ap all_bytes c.as_slice.ensures.value ∙ c.in_ok-words.ensures)
    (c.new-source.ensures ∙ ap telling c.in_ok-make_message.ensures) refl c.deliver_mail-status.ensures.promise in
    on_err _ _ (gives_up_after _ _ c.loop-number.number c.loop-number.totals _ _ _ c.loop-number-test.true c.loop-number.invariant.runs last refl c.if-status-ne0.false)

pub loop-number-preserved : goal.loop-number-preserved
loop-number-preserved g c =
    let last = is_run _ c.loop-number.number (left_of c.deliver_mail-status.new.source) (omega arith) (ap all_bytes c.as_slice.ensures.value ∙ c.in_ok-words.ensures)
    (c.new-source.ensures ∙ ap telling c.in_ok-make_message.ensures) refl c.deliver_mail-status.ensures.promise in
    record {
      runs = counted_more _ c.loop-number.number c.loop-number.totals c.add.new.self _ _ _ c.loop-number.invariant.runs last refl c.if-status-ne0.false
          (c.in_ok-add.ensures ∙ ap (λ es. plus c.loop-number.totals (totals_of es)) c.entries.ensures);
      no_child = c.deliver_mail-status.ensures.promise.children;
    }

pub returns-clause-ok : goal.returns-clause-ok
returns-clause-ok g c = succeeds c.args.count _ c.loop-number.number c.loop-number.totals _ _ _ (omega arith) c.loop-number.invariant.runs c.in_ok-make_report.ensures
