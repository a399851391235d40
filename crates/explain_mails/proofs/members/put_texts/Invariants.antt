use Rattle.std.proofs.Common.{◌≡◌, ◌++◌, drop, map}
use Rattle.explain_mails.specs.Members.{text_token}
use Rattle.explain_mails.proofs.members.put_texts.Given as goal

abbrev pub invariant-loop-text : goal.invariant-loop-text
invariant-loop-text l = (l.writer.before ≡ l.fn.writer.before)
    × (l.writer.tokens ++ map text_token (drop l.text-index l.texts) ≡ l.fn.writer.tokens ++ map text_token l.texts)
