use Rattle.std.proofs.Common.{length}
use Rattle.pm_meaning.specs.Leads.{asking_of}
use Rattle.pm_conds.proofs.LeadLemmas.{IsPassed}
use Rattle.pm_conds.proofs.leads.read_lead.Given as goal

abbrev pub invariant-loop-more : goal.invariant-loop-more
invariant-loop-more l = IsPassed (asking_of l.fn.text l.fn.question) (asking_of l.rest l.question)

abbrev pub decreases-loop-more : goal.decreases-loop-more
decreases-loop-more l = length l.rest
