use Rattle.std.proofs.Common.{◌≡◌, arith}
use Rattle.std.proofs.lemmas.Grind.{common_steps}
use Rattle.pm_message.specs.Split.{head_of, body_of}
use Rattle.pm_message.proofs.SplitLemmas.{split_of-is_split}
use Rattle.pm_message.proofs.head.divide.Goals as goal

pub returns-clause-shortest : goal.returns-clause-shortest
returns-clause-shortest c =
    let head : c.in_ok-head.head ≡ head_of c.args.mail = grind (arith, common_steps) in
    let body : c.in_ok-body.body ≡ body_of c.args.mail = grind (arith, common_steps) in
    rw (head, body) (split_of-is_split c.args.mail)
