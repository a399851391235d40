use Rattle.std.proofs.Common.{◌≡◌, suc, [], rules, refl, length, ap, ◌∙◌, subst, arith}
use Rattle.pm_journal.proofs.WantsMemory.{on_err}
use Rattle.pm_meaning.specs.Minds.{mind_of}
use Rattle.pm_perform.specs.Copies.{AllShown}
use Rattle.pm_perform.proofs.FileLemmas.{Copied, rest_begun, copy_on, copy_stops, copy_wants, copies_over}
use Rattle.pm_perform.proofs.FoundLemmas.{grown_none, grown_on, grown_by, grown_out, met_on}
use Rattle.pm_perform.proofs.filing.file_each.Goals.{in-ToFile+in_ok-filed-in-ToFile, in-ToFolder+in_ok-filed-in-ToFolder}
use Rattle.pm_perform.proofs.filing.file_each.Goals as goal

pub loop-copy-init : goal.loop-copy-init
loop-copy-init g c = record {
  rest = λ ds is. rest_begun c.args.flags ds c.args.copies.items (mind_of c.args.run.now.process) _ _ is;
  room = c.requires.room;
  shown = c.requires.shown;
  locks = refl;
  grown = grown_none c.args.run.now.journal c.args.run.now.journal refl;
}

pub returns-in_err-filed-in-ToFile-clause-carries : goal.returns-in_err-filed-in-ToFile-clause-carries
returns-in_err-filed-in-ToFile-clause-carries g c = λ ds is.
    (search rules, on_err _ _ (copy_wants _ c.args.flags c.loop-copy.copies.items c.pop_front.new.self.items c.in-Some.copy (mind_of c.loop-copy.run.process) _ _ _ _ _ _ (c.loop-copy.invariant.rest ds is) c.in-Some.ensures.items (rw c.in-ToFile.is c.in_err-filed-in-ToFile.ensures.carries.1)))

pub returns-in_err-filed-in-ToFile-clause-met : goal.returns-in_err-filed-in-ToFile-clause-met
returns-in_err-filed-in-ToFile-clause-met g c =
    let grown = grown_out _ c.loop-copy.run.journal c.append_copy.new.run.journal _ _ c.in_err-filed-in-ToFile.ensures.carries.1 in
    on_err _ _ (met_on c.args.run.now.journal c.loop-copy.run.journal c.append_copy.new.run.journal c.loop-copy.invariant.grown grown c.in_err-filed-in-ToFile.ensures.met)

pub returns-in_err-filed-in-ToFolder-clause-carries : goal.returns-in_err-filed-in-ToFolder-clause-carries
returns-in_err-filed-in-ToFolder-clause-carries g c = λ ds is.
    (search rules, on_err _ _ (copy_wants _ c.args.flags c.loop-copy.copies.items c.pop_front.new.self.items c.in-Some.copy (mind_of c.loop-copy.run.process) _ _ _ _ _ _ (c.loop-copy.invariant.rest ds is) c.in-Some.ensures.items (rw c.in-ToFolder.is c.in_err-filed-in-ToFolder.ensures.carries.1)))

pub returns-in_err-filed-in-ToFolder-clause-met : goal.returns-in_err-filed-in-ToFolder-clause-met
returns-in_err-filed-in-ToFolder-clause-met g c =
    let grown = grown_out _ c.loop-copy.run.journal c.file_in_folder.new.run.journal _ _ c.in_err-filed-in-ToFolder.ensures.carries.1 in
    on_err _ _ (met_on c.args.run.now.journal c.loop-copy.run.journal c.file_in_folder.new.run.journal c.loop-copy.invariant.grown grown c.in_err-filed-in-ToFolder.ensures.met)

pub returns-then-not-is_stored-clause-carries : goal.returns-then-not-is_stored-clause-carries
returns-then-not-is_stored-clause-carries g c =
    let p = mind_of c.loop-copy.run.process in
    let q = mind_of c.match-copy.run.process in
    let copied : Copied c.args.flags c.in-Some.copy c.match-copy.filed p q c.loop-copy.run.process.locks c.match-copy.run.process.locks c.loop-copy.run.journal c.match-copy.run.journal (g.D.Asks.told c.loop-copy.run.outside) (g.D.Asks.told c.match-copy.run.outside) =
    elim c.match-copy.branch [
      | in-ToFile+in_ok-filed-in-ToFile w ↦ rw (w.in-ToFile.is, w.run-is, w.filed-is) (record { comes = w.in_ok-filed-in-ToFile.ensures.carries.0; locks = w.append_copy.ensures.locks; room = w.in_ok-filed-in-ToFile.ensures.room })
      | in-ToFolder+in_ok-filed-in-ToFolder w ↦ rw (w.in-ToFolder.is, w.run-is, w.filed-is) (record { comes = w.in_ok-filed-in-ToFolder.ensures.carries.0; locks = w.file_in_folder.ensures.locks; room = omega (arith, w.in_ok-filed-in-ToFolder.ensures.room) })
    ] in
    λ ds is. (copy_stops _ c.args.flags c.loop-copy.copies.items c.pop_front.new.self.items c.in-Some.copy c.match-copy.filed p q _ _ _ _ _ _ (c.loop-copy.invariant.rest ds is) c.in-Some.ensures.items copied.comes (search rules), tt)

pub loop-copy-preserved : goal.loop-copy-preserved
loop-copy-preserved g c =
    let p = mind_of c.loop-copy.run.process in
    let q = mind_of c.match-copy.run.process in
    let copied : Copied c.args.flags c.in-Some.copy c.match-copy.filed p q c.loop-copy.run.process.locks c.match-copy.run.process.locks c.loop-copy.run.journal c.match-copy.run.journal (g.D.Asks.told c.loop-copy.run.outside) (g.D.Asks.told c.match-copy.run.outside) =
    elim c.match-copy.branch [
      | in-ToFile+in_ok-filed-in-ToFile w ↦ rw (w.in-ToFile.is, w.run-is, w.filed-is) (record { comes = w.in_ok-filed-in-ToFile.ensures.carries.0; locks = w.append_copy.ensures.locks; room = w.in_ok-filed-in-ToFile.ensures.room })
      | in-ToFolder+in_ok-filed-in-ToFolder w ↦ rw (w.in-ToFolder.is, w.run-is, w.filed-is) (record { comes = w.in_ok-filed-in-ToFolder.ensures.carries.0; locks = w.file_in_folder.ensures.locks; room = omega (arith, w.in_ok-filed-in-ToFolder.ensures.room) })
    ] in
    let split : length c.loop-copy.copies.items ≡ suc (length c.pop_front.new.self.items) = ap length c.in-Some.ensures.items in
    let locks : length c.match-copy.run.process.locks.names ≡ length c.loop-copy.run.process.locks.names = ap (λ l. length l.names) copied.locks in
    record {
      rest = λ ds is. copy_on _ c.args.flags c.loop-copy.copies.items c.pop_front.new.self.items c.in-Some.copy c.match-copy.filed p q _ _ _ _ _ _ (c.loop-copy.invariant.rest ds is) c.in-Some.ensures.items copied.comes (search rules);
      room = omega (arith, c.loop-copy.invariant.room, copied.room, split, locks);
      shown = (subst AllShown c.in-Some.ensures.items c.loop-copy.invariant.shown).1;
      locks = copied.locks ∙ c.loop-copy.invariant.locks;
      grown = grown_on c.args.run.now.journal c.loop-copy.run.journal c.match-copy.run.journal c.loop-copy.invariant.grown (grown_by _ _ c.loop-copy.run.journal c.match-copy.run.journal _ _ copied.comes);
    }

pub returns-clause-carries : goal.returns-clause-carries
returns-clause-carries g c = λ ds is.
    let e : c.loop-copy.copies.items ≡ [] = search rules in (copies_over _ c.args.flags c.loop-copy.copies.items (mind_of c.loop-copy.run.process) _ _ _ _ (c.loop-copy.invariant.rest ds is) e, tt)
