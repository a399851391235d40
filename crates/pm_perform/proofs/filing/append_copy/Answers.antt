use Rattle.std.proofs.Common.{refl, sym, ◌∙◌, subst, arith}
use Rattle.pm_journal.proofs.KeepingActs.{keeping_plain}
use Rattle.pm_journal.specs.Held.{Keeping}
use Rattle.pm_meaning.specs.Minds.{mind_of}
use Rattle.pm_perform.specs.Copies.{filing_of, with_kept}
use Rattle.pm_meaning.proofs.Choices.{ok_map, err_map}
use Rattle.pm_perform.proofs.FileLemmas.{taken_by_nothing, appended_plain, appended_plain_out}
use Rattle.pm_perform.proofs.FoundLemmas.{met_append, met_first}
use Rattle.pm_perform.proofs.filing.append_copy.Goals as goal

pub returns-then-is_nothing-clause-carries : goal.returns-then-is_nothing-clause-carries
returns-then-is_nothing-clause-carries g c =
    let p = mind_of c.args.run.now.process in
    (taken_by_nothing c.args.flags c.args.copy.name c.args.copy.piece (with_kept c.args.copy.kept p) p _ _ _ (sym c.is_nothing.ensures ∙ c.if-is_nothing.true) c.keep.ensures.mind, tt)

pub returns-then-is_folder-clause-carries : goal.returns-then-is_folder-clause-carries
returns-then-is_folder-clause-carries g c =
    let p = mind_of c.args.run.now.process in
    let q = mind_of c.file_plain.new.run.process in
    let stored = with_kept c.args.copy.kept p in
    let some = sym c.is_nothing.ensures ∙ c.if-is_nothing.false in
    let there = sym c.is_folder.ensures ∙ c.if-is_folder.true in (
      ok_map c.file_plain.result _ _ (λ filed h. appended_plain c.args.flags c.args.copy.name c.args.copy.piece c.args.copy.shown stored p _ (filing_of filed q) c.args.run.now.journal c.append-end.new.journal c.file_plain.new.run.journal _ _ _ some c.requires.shown there c.append-end.ensures h) c.file_plain.ensures.carries.0,
      err_map c.file_plain.result _ _ (λ h. appended_plain_out c.args.flags c.args.copy.name c.args.copy.piece c.args.copy.shown stored p _ c.args.run.now.journal c.append-end.new.journal c.file_plain.new.run.journal _ _ _ some c.requires.shown there c.append-end.ensures h) c.file_plain.ensures.carries.1,
    )

pub returns-then-is_folder-clause-met : goal.returns-then-is_folder-clause-met
returns-then-is_folder-clause-met g c =
    let there = sym c.is_folder.ensures ∙ c.if-is_folder.true in
    let met = met_append c.append-end.ensures.entry c.args.copy.name c.args.copy.piece _ c.append-end.ensures.act_is c.append-end.ensures.reply_is there in
    err_map c.file_plain.result _ _ (λ h. met_first c.args.run.now.journal c.append-end.new.journal c.file_plain.new.run.journal c.append-end.ensures.entry h.more c.append-end.ensures.entries met h.entries) c.file_plain.ensures.carries.1

pub invariant_of-run : goal.invariant_of-run
invariant_of-run g c =
    let kept = subst (λ l. Keeping c.args.run.now.journal l.names) (sym c.keep.ensures.locks) (record { keeps = c.args.run.now.keeps; room = c.args.run.now.room }) in
    record { keeps = kept.keeps; room = kept.room }

pub invariant_of-run-then-is_folder : goal.invariant_of-run-then-is_folder
invariant_of-run-then-is_folder g c =
    let kept = keeping_plain _ _ c.args.run.now.journal c.args.run.now.journal c.append-end.new.journal _ _ _ tt (record { keeps = c.args.run.now.keeps; room = c.args.run.now.room }) refl (omega (arith, c.requires.room)) c.append-end.ensures in
    record { keeps = kept.keeps; room = kept.room }

pub invariant_of-run-2 : goal.invariant_of-run-2
invariant_of-run-2 g c =
    let kept = subst (λ l. Keeping c.append-end.new.journal l.names) (sym c.remember.ensures.locks)
    (keeping_plain _ _ c.args.run.now.journal c.args.run.now.journal c.append-end.new.journal _ _ _ tt (record { keeps = c.args.run.now.keeps; room = c.args.run.now.room }) refl (omega (arith, c.requires.room)) c.append-end.ensures) in
    record { keeps = kept.keeps; room = kept.room }
