use Rattle.memchr.proofs.lemmas.ValueLemmas.{IsLastByte-value}
use Rattle.log_summary.proofs.folder.last_slash.Goals as goal

pub returns-clause-value : goal.returns-clause-value
returns-clause-value c = IsLastByte-value _ c.args.name.now _ c.memrchr.ensures
