use Rattle.std.proofs.Common.{sym, ◌∙◌}
use Rattle.formail_edit.proofs.PlainLemmas.{mail_unchanged, no_line, no_takes, some_body}
use Rattle.formail_edit.proofs.unchanged.is_same.Goals as goal

pub returns-then-keeps_line-clause-same : goal.returns-then-keeps_line-clause-same
returns-then-keeps_line-clause-same c = λ t mail is moment.
    let some = some_body c.as_slice-body.result.now (sym c.is_empty.ensures ∙ c.if-is_empty.false) in
    let takes = no_takes c.as_slice.result.now (sym c.is_empty-else-is_empty.ensures ∙ c.if-not-is_empty.false) in
    mail_unchanged c.args.edits.now c.args.message.now mail is
    (rw c.as_slice-body.ensures at some)
    (rw c.as_slice.ensures at takes)
    (rw c.as_slice-2.ensures at (c.keeps_line.ensures.same c.if-keeps_line.true))
    (rw c.as_slice-2.ensures at (c.keeps_line.ensures.line c.if-keeps_line.true))
    (rw c.as_slice-body.ensures at (c.stays.ensures t)) moment

pub returns-then-keeps_line-clause-none : goal.returns-then-keeps_line-clause-none
returns-then-keeps_line-clause-none c = λ t.
    let same = rw c.as_slice-2.ensures at (c.keeps_line.ensures.same c.if-keeps_line.true) in
    let line = rw c.as_slice-2.ensures at (c.keeps_line.ensures.line c.if-keeps_line.true) in
    no_line c.args.edits.now c.args.message.now (rw same line)
