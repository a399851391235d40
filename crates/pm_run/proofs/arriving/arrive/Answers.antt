use Rattle.pm_meaning.specs.Minds.{mind_of}
use Rattle.std.proofs.Common.{refl, rules, sym, ◌∙◌, w64}
use Rattle.std.proofs.Math.Facts.{to_z-of_z}
use Rattle.pm_journal.proofs.WantsMemory.{on_err, out_anywhere}
use Rattle.pm_meaning.proofs.Choices.{ok_map}
use Rattle.pm_run.proofs.ArriveLemmas.{arrived_whole, arrived_dated, dating_wants, dated_then_wants}
use Rattle.pm_run.proofs.arriving.arrive.Goals as goal

pub returns-in_err-message-clause-carries : goal.returns-in_err-message-clause-carries
returns-in_err-message-clause-carries g c =
    (search rules, on_err _ _ (out_anywhere _ _ _ _ refl))

pub returns-then-not-needs_line-clause-carries : goal.returns-then-not-needs_line-clause-carries
returns-then-not-needs_line-clause-carries g c =
    (ok_map _ _ _ (λ p h. arrived_whole c.args.line.now c.args.env.now c.args.bytes c.in_ok-message.message (mind_of p) _ _ (sym (rw c.as_slice.ensures at c.needs_line.ensures) ∙ c.if-not-needs_line.true) c.in_ok-message.ensures h) c.begin.ensures.mind, on_err _ _ (out_anywhere _ _ _ _ refl))

pub returns-in_err-moment-clause-carries : goal.returns-in_err-moment-clause-carries
returns-in_err-moment-clause-carries g c =
    (search rules, on_err _ _ (dating_wants c.args.line.now c.args.env.now c.args.bytes _ _ _ _ (sym (rw c.as_slice.ensures at c.needs_line.ensures) ∙ c.if-not-needs_line.false) c.in_err-moment.ensures.carries.1))

pub returns-in_err-message-2-clause-carries : goal.returns-in_err-message-2-clause-carries
returns-in_err-message-2-clause-carries g c =
    (search rules, on_err _ _ (dated_then_wants c.args.line.now c.args.env.now c.args.bytes _ _ _ _ _ (sym (rw c.as_slice.ensures at c.needs_line.ensures) ∙ c.if-not-needs_line.false) c.in_ok-moment.ensures.carries.0))

pub returns-clause-carries : goal.returns-clause-carries
returns-clause-carries g c =
    let moment = to_z-of_z {w = w64} {z = c.in_ok-moment.moment} (search rules) in (
      ok_map _ _ _ (λ p h. arrived_dated c.args.line.now c.args.env.now c.args.bytes c.login.result.now c.in_ok-moment.moment c.in_ok-message-2.message (mind_of p) _ _ _ _ (sym (rw c.as_slice.ensures at c.needs_line.ensures) ∙ c.if-not-needs_line.false) c.login.ensures (rw (moment, c.as_bytes.ensures.value) at c.in_ok-message-2.ensures.prepared) h c.in_ok-moment.ensures.carries.0) c.begin-2.ensures.mind,
      on_err _ _ (dated_then_wants c.args.line.now c.args.env.now c.args.bytes _ _ _ _ _ (sym (rw c.as_slice.ensures at c.needs_line.ensures) ∙ c.if-not-needs_line.false) c.in_ok-moment.ensures.carries.0),
    )
