use Rattle.std.proofs.Common.{◌≡◌, drop}
use Rattle.explain_mails.specs.Words.{last_of, last_rcfile}
use Rattle.explain_mails.proofs.words.last_rcfile.Given as goal

abbrev pub invariant-loop-rcfile : goal.invariant-loop-rcfile
invariant-loop-rcfile l = last_of (drop l.rcfile-index l.rcfiles) l.last ≡ last_rcfile l.rcfiles
