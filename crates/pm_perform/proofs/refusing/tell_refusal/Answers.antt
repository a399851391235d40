use Rattle.std.proofs.Common.{refl}
use Rattle.pm_journal.proofs.WantsMemory.{out_anywhere}
use Rattle.pm_meaning.specs.Changes.{overflowed}
use Rattle.pm_meaning.specs.Minds.{mind_of}
use Rattle.pm_meaning.specs.Turns.{failed, overflow_act, refuse_act}
use Rattle.pm_meaning.specs.declared.acted.Cause.TheVariants as cause
use Rattle.pm_meaning.proofs.Choices.{carried, err_map}
use Rattle.pm_perform.proofs.CalmLemmas.{calm_out, calm_said, calm_sure, sure_none}
use Rattle.pm_perform.proofs.refusing.tell_refusal.Goals as goal

pub returns-in-TooLong-clause-carries : goal.returns-in-TooLong-clause-carries
returns-in-TooLong-clause-carries g c = λ plan h.
    carried (overflow_act c.in-TooLong.length (mind_of c.args.run.now.process)) plan _ _ _ _ _ _ (rw c.in-TooLong.is at h) c.overflow.ensures.carries

pub returns-in-Unusable-clause-carries : goal.returns-in-Unusable-clause-carries
returns-in-Unusable-clause-carries g c = λ plan h.
    carried (refuse_act c.in-Unusable.cause c.in-Unusable.text.now (mind_of c.args.run.now.process)) plan _ _ _ _ _ _ (rw c.in-Unusable.is at h) c.refuse_act.ensures.carries

pub returns-in-Memory-clause-carries : goal.returns-in-Memory-clause-carries
returns-in-Memory-clause-carries g c = λ plan h. (tt, out_anywhere plan _ _ _ refl)

pub returns-in-TooLong-clause-sure : goal.returns-in-TooLong-clause-sure
returns-in-TooLong-clause-sure g c = λ flags.
    let p = mind_of c.args.run.now.process in
    let came = failed (cause.Overflow c.in-TooLong.length) (overflowed p) in
    err_map c.overflow.result _ _ (λ out. calm_sure flags c.args.run.now.journal c.overflow.new.run.journal (calm_out flags (overflow_act c.in-TooLong.length p) c.args.run.now.journal c.overflow.new.run.journal _ _ (calm_said flags p _ came) out)) c.overflow.ensures.carries.1

pub returns-in-Unusable-clause-sure : goal.returns-in-Unusable-clause-sure
returns-in-Unusable-clause-sure g c = λ flags.
    let p = mind_of c.args.run.now.process in
    let why = c.in-Unusable.cause in
    err_map c.refuse_act.result _ _ (λ out. calm_sure flags c.args.run.now.journal c.refuse_act.new.run.journal (calm_out flags (refuse_act why c.in-Unusable.text.now p) c.args.run.now.journal c.refuse_act.new.run.journal _ _ (calm_said flags p _ (failed why p)) out)) c.refuse_act.ensures.carries.1

pub returns-in-Memory-clause-sure : goal.returns-in-Memory-clause-sure
returns-in-Memory-clause-sure g c = λ flags. sure_none flags c.args.run.now.journal c.args.run.now.journal refl
