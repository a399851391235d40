use Rattle.memchr.proofs.lemmas.ValueLemmas.{IsLastByte-value}
use Rattle.check_find.proofs.finding.last_newline.Goals as goal

pub returns-clause-value : goal.returns-clause-value
returns-clause-value c = IsLastByte-value _ c.args.text.now _ c.memrchr.ensures
