use Rattle.std.proofs.Common.{sym, ◌∙◌}
use Rattle.pm_message.proofs.HeadLemmas.{newline_first, not_first, head_len-some, head_len-none, head_at, body_at}
use Rattle.pm_message.proofs.head.head_length.Goals as goal

pub returns-then-starts_with-clause-body : goal.returns-then-starts_with-clause-body
returns-then-starts_with-clause-body c =
    body_at c.args.bytes.now 1 (newline_first c.args.bytes.now (sym c.starts_with.ensures.value ∙ c.if-starts_with.true))

pub returns-then-starts_with-clause-head : goal.returns-then-starts_with-clause-head
returns-then-starts_with-clause-head c =
    head_at c.args.bytes.now 1 (newline_first c.args.bytes.now (sym c.starts_with.ensures.value ∙ c.if-starts_with.true))

pub returns-in-None-clause-head : goal.returns-in-None-clause-head
returns-in-None-clause-head c =
    head_at c.args.bytes.now _ (head_len-none c.args.bytes.now (not_first c.args.bytes.now (sym c.starts_with.ensures.value ∙ c.if-starts_with.false)) c.in-None.ensures)

pub returns-in-None-clause-body : goal.returns-in-None-clause-body
returns-in-None-clause-body c =
    body_at c.args.bytes.now _ (head_len-none c.args.bytes.now (not_first c.args.bytes.now (sym c.starts_with.ensures.value ∙ c.if-starts_with.false)) c.in-None.ensures)

pub returns-in-Some-clause-head : goal.returns-in-Some-clause-head
returns-in-Some-clause-head c =
    head_at c.args.bytes.now _ (head_len-some c.args.bytes.now c.in-Some.place (not_first c.args.bytes.now (sym c.starts_with.ensures.value ∙ c.if-starts_with.false)) c.in-Some.ensures)

pub returns-in-Some-clause-body : goal.returns-in-Some-clause-body
returns-in-Some-clause-body c =
    body_at c.args.bytes.now _ (head_len-some c.args.bytes.now c.in-Some.place (not_first c.args.bytes.now (sym c.starts_with.ensures.value ∙ c.if-starts_with.false)) c.in-Some.ensures)
