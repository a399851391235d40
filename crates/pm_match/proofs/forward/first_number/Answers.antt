use Rattle.std.proofs.Common.{sym, arith}
use Rattle.std.proofs.lemmas.Option.{slice_get_read}
use Rattle.pm_match.proofs.forward.first_number.Goals as goal

pub returns-then-known-lt-NONE-clause-number : goal.returns-then-known-lt-NONE-clause-number
returns-then-known-lt-NONE-clause-number c =
    let begins = c.args.forward.now.begins in
    let area = c.args.area.now in
    let ready = c.requires.ready in
    let read = slice_get_read begins.items _ _ _ begins.ok.0 (omega (arith, c.context_at.ensures.few, ready.contexts)) c.index-known.ensures in
    let begin = ready.begins c.context_at.result _ read c.if-known-lt-NONE.true in (
      begin.0,
      λ r is. begin.1 r is area c.args.start c.requires.start (sym c.context_at.ensures.is),
    )
