use Rattle.std.proofs.Common.{◌≡◌, ◌++◌, drop}
use Rattle.formail_top.specs.Outputs.{each_output_of}
use Rattle.formail_top.proofs.outputs.each_output.Given as goal

abbrev pub invariant-loop-mail : goal.invariant-loop-mail
invariant-loop-mail l =
    l.texts.items ++ each_output_of l.request l.moment (drop l.mail-index l.mails)
    ≡ each_output_of l.request l.moment l.mails
