use Rattle.std.proofs.Common.{◌≡◌, rules, refl, sym, ap, subst, w64}
use Rattle.std.proofs.Math.Facts.{to_z-of_z}
use Rattle.pm_journal.specs.Held.{Keeping}
use Rattle.pm_journal.proofs.WantsMemory.{on_err}
use Rattle.pm_vars.specs.declared.marks.Marks.{Marks}
use Rattle.pm_meaning.specs.Minds.{mind_of}
use Rattle.pm_meaning.proofs.Choices.{ok_map}
use Rattle.pm_perform.proofs.PlaceLemmas.{has_file, filed_in, asked_out, filed_then_out, filing_left, keeping_filed, keeping_asked, stamped, filing_for}
use Rattle.pm_perform.proofs.FoundLemmas.{grown_none, grown_act, met_asked}
use Rattle.pm_perform.proofs.placing.file_in_folder.Goals as goal

pub returns-in_err-serial-clause-carries : goal.returns-in_err-serial-clause-carries
returns-in_err-serial-clause-carries g c =
    (search rules, on_err _ _ (asked_out c.args.copy.kind c.args.copy.folder c.args.copy.prefix c.args.copy.piece (mind_of c.args.run.now.process) c.moment-moment.result c.args.run.now.journal c.moment-moment.new.journal _ _ c.moment-moment.ensures))

pub returns-in_err-host_name-clause-carries : goal.returns-in_err-host_name-clause-carries
returns-in_err-host_name-clause-carries g c =
    (search rules, on_err _ _ (asked_out c.args.copy.kind c.args.copy.folder c.args.copy.prefix c.args.copy.piece (mind_of c.args.run.now.process) c.moment-moment.result c.args.run.now.journal c.moment-moment.new.journal _ _ c.moment-moment.ensures))

pub returns-in_err-end-clause-carries : goal.returns-in_err-end-clause-carries
returns-in_err-end-clause-carries g c =
    let p = mind_of c.args.run.now.process in
    let moment = to_z-of_z {w = w64} {z = c.moment-moment.result} (search rules) in
    let stamp = stamped p _ c.moment-moment.result c.marks.result.now.pid c.in_ok-serial.serial c.in_ok-host_name.host_name moment (ap (λ (m : Marks). m.pid) c.marks.ensures) c.in_ok-serial.ensures c.in_ok-host_name.ensures in
    (search rules, on_err _ _ (filing_left (filing_for c.args.copy.kind c.args.copy.folder c.args.copy.prefix c.args.copy.piece _ c.marks.result.now.pid c.in_ok-serial.serial c.in_ok-host_name.host_name) p c.moment-moment.result c.args.run.now.journal c.moment-moment.new.journal c.place.new.journal _ _ _ stamp c.moment-moment.ensures c.in_err-end.ensures.same c.in_err-end.ensures.left))

pub conclude-requires : goal.conclude-requires
conclude-requires g c = record { file = has_file _ c.in_ok-end.end c.moment-moment.new.journal c.place.new.journal _ _ c.in_ok-end.ensures.ok }

pub returns-clause-carries : goal.returns-clause-carries
returns-clause-carries g c =
    let p = mind_of c.args.run.now.process in
    let moment = to_z-of_z {w = w64} {z = c.moment-moment.result} (search rules) in
    let stamp = stamped p _ c.moment-moment.result c.marks.result.now.pid c.in_ok-serial.serial c.in_ok-host_name.host_name moment (ap (λ (m : Marks). m.pid) c.marks.ensures) c.in_ok-serial.ensures c.in_ok-host_name.ensures in
    let counts = ap (λ n. record p { placed = n }) c.in_ok-serial.ensures in
    let same : c.args.copy.shown ≡ c.args.copy.folder = c.requires.shown in (
      ok_map c.conclude.result _ _ (λ filed is. filed_in (filing_for c.args.copy.kind c.args.copy.folder c.args.copy.prefix c.args.copy.piece _ c.marks.result.now.pid c.in_ok-serial.serial c.in_ok-host_name.host_name) c.args.copy.shown _ p (mind_of c.conclude.new.process) (record p { placed = c.in_ok-serial.serial }) c.moment-moment.result c.in_ok-end.end filed
          c.args.run.now.journal c.moment-moment.new.journal c.place.new.journal _ _ _ same c.len-size.ensures stamp counts c.moment-moment.ensures c.in_ok-end.ensures.ok is) c.conclude.ensures.filed,
      on_err _ _ (filed_then_out (filing_for c.args.copy.kind c.args.copy.folder c.args.copy.prefix c.args.copy.piece _ c.marks.result.now.pid c.in_ok-serial.serial c.in_ok-host_name.host_name) p c.moment-moment.result c.in_ok-end.end c.args.run.now.journal c.moment-moment.new.journal c.place.new.journal _ _ _ stamp c.moment-moment.ensures c.in_ok-end.ensures.ok),
    )

pub returns-in_err-serial-clause-met : goal.returns-in_err-serial-clause-met
returns-in_err-serial-clause-met g c =
    on_err _ _ (met_asked _ c.args.run.now.journal c.moment-moment.new.journal c.moment-moment.new.journal _ _ c.moment-moment.ensures (grown_none c.moment-moment.new.journal c.moment-moment.new.journal refl))

pub returns-in_err-host_name-clause-met : goal.returns-in_err-host_name-clause-met
returns-in_err-host_name-clause-met g c =
    on_err _ _ (met_asked _ c.args.run.now.journal c.moment-moment.new.journal c.moment-moment.new.journal _ _ c.moment-moment.ensures (grown_none c.moment-moment.new.journal c.moment-moment.new.journal refl))

pub returns-in_err-end-clause-met : goal.returns-in_err-end-clause-met
returns-in_err-end-clause-met g c =
    on_err _ _ (met_asked _ c.args.run.now.journal c.moment-moment.new.journal c.place.new.journal _ _ c.moment-moment.ensures (grown_none c.moment-moment.new.journal c.place.new.journal (ap (λ j. j.entries) c.in_err-end.ensures.same)))

pub returns-clause-met : goal.returns-clause-met
returns-clause-met g c =
    on_err _ _ (met_asked _ c.args.run.now.journal c.moment-moment.new.journal c.place.new.journal _ _ c.moment-moment.ensures (grown_act _ _ c.moment-moment.new.journal c.place.new.journal _ _ c.in_ok-end.ensures.ok.notes))

pub invariant_of-run : goal.invariant_of-run
invariant_of-run g c =
    let kept = keeping_asked c.moment-moment.result c.args.run.now.journal c.moment-moment.new.journal c.moment-moment.new.journal c.args.run.now.process.locks.names _ _ (record { keeps = c.args.run.now.keeps; room = c.args.run.now.room }) c.requires.room c.moment-moment.ensures refl in
    record { keeps = kept.keeps; room = kept.room }

pub invariant_of-run-in-Break-branch-2 : goal.invariant_of-run-in-Break-branch-2
invariant_of-run-in-Break-branch-2 g c =
    let kept = keeping_asked c.moment-moment.result c.args.run.now.journal c.moment-moment.new.journal c.moment-moment.new.journal c.args.run.now.process.locks.names _ _ (record { keeps = c.args.run.now.keeps; room = c.args.run.now.room }) c.requires.room c.moment-moment.ensures refl in
    record { keeps = kept.keeps; room = kept.room }

pub invariant_of-run-in-Break-branch-3 : goal.invariant_of-run-in-Break-branch-3
invariant_of-run-in-Break-branch-3 g c =
    let kept = keeping_asked c.moment-moment.result c.args.run.now.journal c.moment-moment.new.journal c.place.new.journal c.args.run.now.process.locks.names _ _ (record { keeps = c.args.run.now.keeps; room = c.args.run.now.room }) c.requires.room c.moment-moment.ensures c.in_err-end.ensures.same in
    record { keeps = kept.keeps; room = kept.room }

pub invariant_of-run-2 : goal.invariant_of-run-2
invariant_of-run-2 g c =
    let kept = subst (λ l. Keeping c.place.new.journal l.names) (sym c.conclude.ensures.locks)
    (keeping_filed _ c.moment-moment.result c.in_ok-end.end c.args.run.now.journal c.moment-moment.new.journal c.place.new.journal c.args.run.now.process.locks.names _ _ _ (record { keeps = c.args.run.now.keeps; room = c.args.run.now.room }) c.requires.room c.moment-moment.ensures c.in_ok-end.ensures.ok) in
    record { keeps = kept.keeps; room = kept.room }
