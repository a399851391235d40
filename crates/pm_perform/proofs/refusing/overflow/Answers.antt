use Rattle.std.proofs.Common.{refl, rules}
use Rattle.std.specs.Prelude.{codes}
use Rattle.pm_journal.specs.LogText.{value_too_long_line}
use Rattle.pm_meaning.specs.Changes.{overflowed}
use Rattle.pm_meaning.specs.Minds.{mind_of}
use Rattle.pm_meaning.specs.Turns.{failed}
use Rattle.pm_meaning.specs.declared.acted.Cause.TheVariants as cause
use Rattle.pm_journal.proofs.WantsMemory.{on_err, out_anywhere}
use Rattle.pm_meaning.proofs.Choices.{line_out, line_then_out}
use Rattle.pm_meaning.proofs.SkipLemmas.{set_copy}
use Rattle.pm_perform.proofs.DeliverLemmas.{overflow_told}
use Rattle.pm_perform.proofs.refusing.overflow.Goals as goal

pub returns-in_err-line : goal.returns-in_err-line
returns-in_err-line g c = record { carries = (search rules, on_err _ _ (out_anywhere _ _ _ _ refl)) }

pub returns-in_err-mark : goal.returns-in_err-mark
returns-in_err-mark g c = record { carries = (search rules, on_err _ _ (out_anywhere _ _ _ _ refl)) }

pub returns-in_err-set : goal.returns-in_err-set
returns-in_err-set g c = record {
  carries = (
      let p = mind_of c.args.run.now.process in
      (search rules, on_err _ _ (line_then_out p (value_too_long_line c.args.length) _ (failed (cause.Overflow c.args.length) (overflowed p)) _ _ _ _ c.in_ok-line.ensures c.in_ok-tell.ensures.carries.0)));
}

pub returns-in_err-tell : goal.returns-in_err-tell
returns-in_err-tell g c = record {
  carries = (
      let p = mind_of c.args.run.now.process in
      (search rules, on_err _ _ (line_out p (value_too_long_line c.args.length) _ (failed (cause.Overflow c.args.length) (overflowed p)) _ _ _ _ c.in_ok-line.ensures c.in_err-tell.ensures.carries.1)));
}

pub returns : goal.returns
returns g c = record {
  carries = (
      let p = mind_of c.args.run.now.process in
      rw c.tell.ensures.same (overflow_told c.args.length _ p _ _ _ _ _ c.in_ok-line.ensures (set_copy (codes "PROCMAIL_OVERFLOW") (codes "yes") _ p _ c.in_ok-mark.ensures (rw c.tell.ensures.same at c.in_ok-set.ensures.ok)) c.in_ok-tell.ensures.carries.0, tt));
}
