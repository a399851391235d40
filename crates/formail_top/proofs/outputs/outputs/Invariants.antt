use Rattle.std.proofs.Common.{◌≡◌, ◌++◌, drop}
use Rattle.std.specs.List.{concat}
use Rattle.formail_top.specs.Outputs.{outputs_of}
use Rattle.formail_top.proofs.outputs.outputs.Given as goal

abbrev pub invariant-loop-mail : goal.invariant-loop-mail
invariant-loop-mail l =
    concat l.texts.items ++ outputs_of l.request l.moment (drop l.mail-index l.mails)
    ≡ outputs_of l.request l.moment l.mails
