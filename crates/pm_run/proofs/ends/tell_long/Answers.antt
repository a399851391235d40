use Rattle.std.proofs.Common.{refl, rules}
use Rattle.std.specs.Prelude.{codes}
use Rattle.pm_journal.specs.LogText.{value_too_long_line}
use Rattle.pm_journal.proofs.WantsMemory.{on_err, out_anywhere}
use Rattle.pm_meaning.specs.Ends.{trapped_with}
use Rattle.pm_meaning.specs.Changes.{overflowed}
use Rattle.pm_meaning.specs.Minds.{mind_of}
use Rattle.pm_meaning.proofs.Choices.{line_out, line_then_out}
use Rattle.pm_meaning.proofs.SkipLemmas.{set_copy}
use Rattle.pm_run.proofs.EndLemmas.{long_told}
use Rattle.pm_run.proofs.ends.tell_long.Goals as goal

pub returns-in_err-line : goal.returns-in_err-line
returns-in_err-line g c = record { carries = (search rules, on_err _ _ (out_anywhere _ _ _ _ refl)) }

pub returns-in_err-mark : goal.returns-in_err-mark
returns-in_err-mark g c = record { carries = (search rules, on_err _ _ (out_anywhere _ _ _ _ refl)) }

pub returns-in_err-set : goal.returns-in_err-set
returns-in_err-set g c = record {
  carries = (
      let p = mind_of c.args.run.now.process in
      (search rules, on_err _ _ (line_then_out p (value_too_long_line c.args.length) _ (trapped_with 127 (overflowed p)) _ _ _ _ c.in_ok-line.ensures c.in_ok-tell.ensures.carries.0)));
}

pub returns-in_err-tell : goal.returns-in_err-tell
returns-in_err-tell g c = record {
  carries = (
      let p = mind_of c.args.run.now.process in
      (search rules, on_err _ _ (line_out p (value_too_long_line c.args.length) _ (trapped_with 127 (overflowed p)) _ _ _ _ c.in_ok-line.ensures c.in_err-tell.ensures.carries.1)));
}

pub returns : goal.returns
returns g c = record {
  carries = (
      let p = mind_of c.args.run.now.process in
      let marked = set_copy (codes "PROCMAIL_OVERFLOW") (codes "yes") _ p _ c.in_ok-mark.ensures (rw c.tell.ensures.same at c.in_ok-set.ensures.ok) in
      rw c.tell.ensures.same (long_told (value_too_long_line c.args.length) _ p (overflowed p) _ _ _ _ _ c.in_ok-line.ensures marked c.in_ok-tell.ensures.carries.0, tt));
}
