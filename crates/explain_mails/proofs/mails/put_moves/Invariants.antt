use Rattle.std.proofs.Common.{◌≡◌, ◌++◌, drop, flat_map}
use Rattle.explain_mails.specs.Objects.{listed_tokens}
use Rattle.explain_mails.proofs.mails.put_moves.Given as goal

abbrev pub invariant-loop-mail : goal.invariant-loop-mail
invariant-loop-mail l = (l.writer.before ≡ l.fn.writer.before)
    × (l.writer.tokens ++ flat_map listed_tokens (drop l.mail-index l.mails) ≡ l.fn.writer.tokens ++ flat_map listed_tokens l.mails)
