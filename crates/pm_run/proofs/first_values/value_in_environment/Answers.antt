use Rattle.std.proofs.Common.{sym, ap, ◌∙◌}
use Rattle.std.specs.Prelude.{bytes_eq}
use Rattle.pm_run.proofs.EnvironmentLemmas.{found_first, missed_first}
use Rattle.pm_meaning.proofs.Sequences.{front_of_rest}
use Rattle.pm_run.proofs.first_values.value_in_environment.Goals as goal

pub returns-then-eq : goal.returns-then-eq
returns-then-eq c =
    sym (found_first c.args.name.now c.pair-item.result _ _ (front_of_rest _ _ _ _ c.pair-item.is c.loop-pair-test.true) (ap (bytes_eq c.args.name.now) (sym (c.as_bytes.ensures.value ∙ c.as_str.ensures.same)) ∙ sym c.eq.ensures ∙ c.if-eq.true)) ∙ c.loop-pair.invariant.1

pub loop-pair-preserved : goal.loop-pair-preserved
loop-pair-preserved c =
    (c.loop-pair.invariant.0, sym (missed_first c.args.name.now c.pair-item.result _ _ (front_of_rest _ _ _ _ c.pair-item.is c.loop-pair-test.true) (ap (bytes_eq c.args.name.now) (sym (c.as_bytes.ensures.value ∙ c.as_str.ensures.same)) ∙ sym c.eq.ensures ∙ c.if-eq.false)) ∙ c.loop-pair.invariant.1)
