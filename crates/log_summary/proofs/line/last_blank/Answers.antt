use Rattle.memchr.proofs.lemmas.ValueLemmas.{IsLastByte-value}
use Rattle.log_summary.proofs.line.last_blank.Goals as goal

pub returns-clause-value : goal.returns-clause-value
returns-clause-value c = IsLastByte-value _ c.args.text.now _ c.memrchr2.ensures
