use Rattle.std.proofs.Common.{◌∙◌}
use Rattle.pm_journal.proofs.LastEntry.{output_of_last, no_output}
use Rattle.pm_journal.proofs.journal.Journal.last_output.Goals as goal

pub returns-in-Some : goal.returns-in-Some
returns-in-Some g c =
    rw (← c.self.view_is) (c.output_of.ensures ∙ output_of_last (g.K.Entries.state c.self.inside.kept).entries _ (rw c.in-Some.is at c.last_reply.ensures))

pub returns-in-None : goal.returns-in-None
returns-in-None g c = rw (← c.self.view_is) (no_output (g.K.Entries.state c.self.inside.kept).entries (rw c.in-None.is at c.last_reply.ensures))
