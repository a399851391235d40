use Rattle.std.proofs.Common.{arith}
use Rattle.explain_mails.proofs.BeginLemmas.{full_is_no_other, full_with_more}
use Rattle.explain_mails.proofs.laws.begin_alike.Goals as goal

pub returns : goal.returns
returns c filter home folder old new full_home full_folder = grind (arith, full_is_no_other, full_with_more)
