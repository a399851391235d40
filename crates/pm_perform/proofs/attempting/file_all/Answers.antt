use Rattle.std.proofs.Common.{refl, rules, sym, subst}
use Rattle.pm_journal.proofs.WantsMemory.{on_err, out_anywhere}
use Rattle.pm_meaning.specs.Minds.{mind_of}
use Rattle.pm_perform.specs.Copies.{AllShown}
use Rattle.pm_perform.proofs.AttemptLemmas.{attempted_plain, attempted_plain_out}
use Rattle.pm_perform.proofs.FileLemmas.{copies_shown}
use Rattle.pm_perform.proofs.FoundLemmas.{grown_none, grown_out, none_new, met_none, met_on}
use Rattle.pm_perform.proofs.attempting.file_all.Goals as goal

pub returns-in_err-copies-clause-carries : goal.returns-in_err-copies-clause-carries
returns-in_err-copies-clause-carries g c = (search rules, on_err _ _ (out_anywhere _ _ _ _ refl))

pub returns-in_err-room-clause-carries : goal.returns-in_err-room-clause-carries
returns-in_err-room-clause-carries g c = (search rules, on_err _ _ (out_anywhere _ _ _ _ refl))

pub returns-in_err-reserve-clause-carries : goal.returns-in_err-reserve-clause-carries
returns-in_err-reserve-clause-carries g c = (search rules, on_err _ _ (out_anywhere _ _ _ _ c.reserve.ensures.same))

pub file_each-requires-clause-shown : goal.file_each-requires-clause-shown
file_each-requires-clause-shown g c = subst AllShown (sym c.in_ok-copies.ensures.copies) (copies_shown c.args.flags (mind_of c.args.run.now.process) c.args.destinations.now)

pub returns-in_err-filed-clause-carries : goal.returns-in_err-filed-clause-carries
returns-in_err-filed-clause-carries g c =
    let k = (rw c.copies_for.ensures.same at c.in_err-filed.ensures.carries) c.args.destinations.now c.in_ok-copies.ensures.copies in
    (search rules, on_err _ _ (attempted_plain_out c.args.flags c.args.destinations.now (mind_of c.args.run.now.process) _ c.reserve.new.self c.file_each.new.run.journal _ _ c.reserve.ensures.same k.1))

pub returns-clause-carries : goal.returns-clause-carries
returns-clause-carries g c =
    let k = (rw c.copies_for.ensures.same at c.in_ok-filed.ensures.carries) c.args.destinations.now c.in_ok-copies.ensures.copies in
    (attempted_plain c.args.flags c.args.destinations.now (mind_of c.args.run.now.process) (mind_of c.file_each.new.run.process) c.in_ok-filed.filed _ c.reserve.new.self c.file_each.new.run.journal _ _ c.reserve.ensures.same k.0, tt)

pub returns-in_err-copies-clause-untouched : goal.returns-in_err-copies-clause-untouched
returns-in_err-copies-clause-untouched g c = on_err _ _ (none_new c.args.run.now.journal c.args.run.now.journal refl)

pub returns-in_err-room-clause-untouched : goal.returns-in_err-room-clause-untouched
returns-in_err-room-clause-untouched g c = on_err _ _ (none_new c.args.run.now.journal c.args.run.now.journal refl)

pub returns-in_err-reserve-clause-untouched : goal.returns-in_err-reserve-clause-untouched
returns-in_err-reserve-clause-untouched g c = on_err _ _ (none_new c.args.run.now.journal c.reserve.new.self c.reserve.ensures.same)

pub returns-in_err-filed-clause-untouched : goal.returns-in_err-filed-clause-untouched
returns-in_err-filed-clause-untouched g c =
    let k = (rw c.copies_for.ensures.same at c.in_err-filed.ensures.carries) c.args.destinations.now c.in_ok-copies.ensures.copies in
    let x = c.args.run.now.journal in
    let w = c.reserve.new.self in
    let z = c.file_each.new.run.journal in
    on_err _ _ (met_none x z (met_on x w z (grown_none x w c.reserve.ensures.same) (grown_out _ w z _ _ k.1) c.in_err-filed.ensures.met))
