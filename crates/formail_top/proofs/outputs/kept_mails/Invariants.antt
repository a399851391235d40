use Rattle.std.proofs.Common.{◌≡◌, ◌++◌, drop}
use Rattle.formail_top.specs.Outputs.{kept_of}
use Rattle.formail_top.proofs.outputs.kept_mails.Given as goal

abbrev pub invariant-loop-keep : goal.invariant-loop-keep
invariant-loop-keep l =
    l.left.items ++ kept_of (drop l.keep-index l.kept) l.rest ≡ kept_of l.kept l.mails
