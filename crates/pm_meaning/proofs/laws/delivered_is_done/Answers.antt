use Rattle.pm_meaning.proofs.DeliveredLast.{delivered_is_done}
use Rattle.pm_meaning.proofs.laws.delivered_is_done.Goals as goal

pub returns : goal.returns
returns c = delivered_is_done
