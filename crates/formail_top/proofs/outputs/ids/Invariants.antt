use Rattle.std.proofs.Common.{◌≡◌, ◌++◌, drop}
use Rattle.formail_top.specs.Outputs.{ids_of}
use Rattle.formail_top.proofs.outputs.ids.Given as goal

abbrev pub invariant-loop-mail : goal.invariant-loop-mail
invariant-loop-mail l =
    l.ids.items ++ ids_of l.request (drop l.mail-index l.mails) ≡ ids_of l.request l.mails
