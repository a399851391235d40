use Rattle.pm_journal.proofs.Spans.{spans_grow}
use Rattle.pm_journal.proofs.laws.spans_grow.Goals as goal

pub returns : goal.returns
returns c = spans_grow c.accounts_join.ensures c.files_grow.ensures
