use Rattle.std.proofs.Common.{◌≡◌, drop}
use Rattle.formail_top.specs.Outputs.{wants_moment}
use Rattle.formail_top.proofs.outputs.want_moment.Given as goal

abbrev pub invariant-loop-mail : goal.invariant-loop-mail
invariant-loop-mail l =
    wants_moment l.request (drop l.mail-index l.mails) ≡ wants_moment l.request l.mails
