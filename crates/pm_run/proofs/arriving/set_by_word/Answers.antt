use Rattle.std.proofs.Common.{◌∙◌, refl, sym, ap, rules}
use Rattle.std.specs.Prelude.{bytes_eq, codes}
use Rattle.pm_journal.proofs.WantsMemory.{on_err, out_anywhere}
use Rattle.pm_meaning.specs.Minds.{mind_of}
use Rattle.pm_meaning.proofs.Choices.{ok_map, err_map}
use Rattle.pm_run.proofs.ArriveLemmas.{is_rcfile, word_skipped, word_host, word_assigned, word_out, host_set}
use Rattle.pm_run.proofs.arriving.set_by_word.Goals as goal

pub returns-then-names_rcfile : goal.returns-then-names_rcfile
returns-then-names_rcfile g c = record {
  carries = (
      let same = c.as_bytes-name.ensures.value ∙ c.as_str.ensures.same in
      (word_skipped c.args.word.now (mind_of c.args.run.now.process) _ _ (ap is_rcfile (sym same) ∙ sym c.names_rcfile.ensures ∙ c.if-names_rcfile.true), tt));
}

pub returns-in_err-value : goal.returns-in_err-value
returns-in_err-value g c = record { carries = (search rules, on_err _ _ (out_anywhere _ _ _ _ refl)) }

pub returns-in_err-set : goal.returns-in_err-set
returns-in_err-set g c = record { carries = (search rules, on_err _ _ (out_anywhere _ _ _ _ refl)) }

pub returns-then-is_host : goal.returns-then-is_host
returns-then-is_host g c = record {
  carries = (
      let same = c.as_bytes-name.ensures.value ∙ c.as_str.ensures.same in
      let value = c.in_ok-value.ensures ∙ (c.as_bytes.ensures.value ∙ c.as_str-2.ensures.same) in (
        word_host c.args.word.now (mind_of c.args.run.now.process) _ _ _ (ap is_rcfile (sym same) ∙ sym c.names_rcfile.ensures ∙ c.if-names_rcfile.false)
            (ap (λ n. bytes_eq n (codes "HOST")) (sym same) ∙ sym c.is_host.ensures ∙ c.if-is_host.true) (host_set c.args.word.now c.as_bytes-name.result.now c.in_ok-value.value (mind_of c.args.run.now.process) c.set.new.self c.in_ok-set.ensures.ok same value),
        tt,
      ));
}

pub returns : goal.returns
returns g c = record {
  carries = (
      let same = c.as_bytes-name.ensures.value ∙ c.as_str.ensures.same in
      let rcfile = ap is_rcfile (sym same) ∙ sym c.names_rcfile.ensures ∙ c.if-names_rcfile.false in
      let host = ap (λ n. bytes_eq n (codes "HOST")) (sym same) ∙ sym c.is_host.ensures ∙ c.if-is_host.false in
      let value = c.in_ok-value.ensures ∙ (c.as_bytes.ensures.value ∙ c.as_str-2.ensures.same) in (
        ok_map c.assign_value.result _ _ (λ turned h. word_assigned c.args.word.now c.as_bytes-name.result.now c.in_ok-value.value (mind_of c.args.run.now.process) _ _ _ _ _ rcfile host same value h) c.assign_value.ensures.carries.0,
        err_map c.assign_value.result _ _ (λ h. word_out c.args.word.now c.as_bytes-name.result.now c.in_ok-value.value (mind_of c.args.run.now.process) _ _ _ _ rcfile host same value h) c.assign_value.ensures.carries.1,
      ));
}
