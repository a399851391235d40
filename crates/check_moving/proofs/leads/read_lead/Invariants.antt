use Rattle.std.proofs.Common.{◌≡◌, length}
use Rattle.check_moving.specs.Leads.{front_in, front_of, all_read}
use Rattle.check_moving.proofs.leads.read_lead.Given as goal

abbrev pub invariant-loop-after : goal.invariant-loop-after
invariant-loop-after l = all_read l.left (front_in l.lead) ≡ front_of l.initial.text

abbrev pub decreases-loop-after : goal.decreases-loop-after
decreases-loop-after l = length l.left
