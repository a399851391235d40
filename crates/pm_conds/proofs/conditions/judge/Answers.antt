use Rattle.std.proofs.Common.{◌≡◌, [], drop, SFits, w32, to_z, rules, refl, ap}
use Rattle.std.proofs.lemmas.Int.{to_z-of_z}
use Rattle.std.proofs.lemmas.List.{at_drop_all}
use Rattle.pm_journal.proofs.WantsMemory.{on_err}
use Rattle.pm_meaning.specs.Judging.{judged_with}
use Rattle.pm_meaning.specs.Minds.{mind_of}
use Rattle.pm_conds.proofs.ConditionLemmas.{conditions_begin, condition_wants, condition_stops, condition_on, condition_ends, conditions_over}
use Rattle.pm_conds.proofs.NoteLemmas.{hearing_begins, hearing_on, hearing_ends, hearing_over, heard_all}
use Rattle.pm_conds.proofs.conditions.judge.Goals as goal

pub loop-condition-init : goal.loop-condition-init
loop-condition-init g c = record {
  leads = conditions_begin c.args.conditions.now c.args.flags (mind_of c.args.run.now.process) c.has_weight-weighted.result _ _ c.has_weight-weighted.ensures;
  low = search rules;
  high = search rules;
  hears = hearing_begins c.args.conditions.now c.args.flags (mind_of c.args.run.now.process) c.has_weight-weighted.result _ _ _ c.has_weight-weighted.ensures;
}

pub returns-in_err-outcome : goal.returns-in_err-outcome
returns-in_err-outcome g c = record {
  carries = (
      let p = mind_of c.loop-condition.run.process in (
        search rules,
        on_err _ _ (condition_wants _ c.has_weight-weighted.result c.args.flags c.args.conditions.now c.loop-condition.condition-index _ c.condition-item.result (to_z w32 c.loop-condition.total-bits) p
            (c.condition-item.is, c.loop-condition-test.true) _ _ _ _ _ _ c.loop-condition.invariant.leads c.in_err-outcome.ensures.carries.1),
      ));
  hears = search rules;
}

pub returns-in_err-ended : goal.returns-in_err-ended
returns-in_err-ended g c = record {
  carries = (
      let p = mind_of c.loop-condition.run.process in
      let q = mind_of c.outcome.new.run.process in
      let item = c.condition-item.result in
      let conditions = c.args.conditions.now in
      let weighted = c.has_weight-weighted.result in
      let i = c.loop-condition.condition-index in
      let total = to_z w32 c.loop-condition.total-bits in
      (search rules, on_err _ _ (condition_stops _ weighted c.args.flags conditions i _ item total p c.in_ok-outcome.outcome q (c.condition-item.is, c.loop-condition-test.true) _ _ _ _ _ _ c.loop-condition.invariant.leads c.in_ok-outcome.ensures.carries.0)));
  hears = search rules;
}

pub returns-in_err-judged : goal.returns-in_err-judged
returns-in_err-judged g c = record {
  carries = (
      let p = mind_of c.loop-condition.run.process in
      let q = mind_of c.outcome.new.run.process in
      let item = c.condition-item.result in
      let conditions = c.args.conditions.now in
      let weighted = c.has_weight-weighted.result in
      let i = c.loop-condition.condition-index in
      let total = to_z w32 c.loop-condition.total-bits in
      (search rules, on_err _ _ (condition_stops _ weighted c.args.flags conditions i _ item total p c.in_ok-outcome.outcome q (c.condition-item.is, c.loop-condition-test.true) _ _ _ _ _ _ c.loop-condition.invariant.leads c.in_ok-outcome.ensures.carries.0)));
  hears = search rules;
}

pub returns-in-Some : goal.returns-in-Some
returns-in-Some g c =
    let p = mind_of c.loop-condition.run.process in
    let q = mind_of c.outcome.new.run.process in
    let item = c.condition-item.result in
    let conditions = c.args.conditions.now in
    let weighted = c.has_weight-weighted.result in
    let i = c.loop-condition.condition-index in
    let total = to_z w32 c.loop-condition.total-bits in
    let score = c.judge_one.new.total in
    let fs : SFits w32 score = search rules in
    let noted = simp to_z-of_z at c.note_score.ensures in
    let r = record q { vars = c.note_score.new.vars } in
    let heard = simp (to_z-of_z, c.len.ensures) at c.in_ok-judged.ensures in
    record {
      carries = (
        condition_ends _ weighted c.args.flags conditions i _ item total p c.in_ok-outcome.outcome q item.text c.in_ok-ended.ended score c.judge_one.new.vars (c.condition-item.is, c.loop-condition-test.true) (refl, c.in_ok-ended.ensures.course)
            c.in-Some.end r _ _ _ _ _ _ c.loop-condition.invariant.leads c.in_ok-outcome.ensures.carries.0 c.in-Some.is (ap (λ v. record q { vars = v }) noted),
        tt,
      );
      hears = heard_all _ _ _ (judged_with c.in-Some.end r) _ _ _ _ _ _
          (hearing_ends _ weighted c.args.flags conditions i _ item total p item.text c.in_ok-outcome.outcome q c.in_ok-ended.ended score c.judge_one.new.vars (c.condition-item.is, c.loop-condition-test.true) (refl, c.in_ok-ended.ensures.course)
          c.in-Some.end r _ _ _ _ _ _ _ _ _ c.loop-condition.invariant.hears c.in_ok-outcome.ensures.carries.0 c.in-Some.is heard (ap (λ v. record q { vars = v }) noted));
    }

pub loop-condition-preserved : goal.loop-condition-preserved
loop-condition-preserved g c =
    let p = mind_of c.loop-condition.run.process in
    let q = mind_of c.outcome.new.run.process in
    let item = c.condition-item.result in
    let conditions = c.args.conditions.now in
    let weighted = c.has_weight-weighted.result in
    let i = c.loop-condition.condition-index in
    let total = to_z w32 c.loop-condition.total-bits in
    let score = c.judge_one.new.total in
    let fs : SFits w32 score = search rules in
    let low = c.in_ok-ended.ensures.low in
    let high = c.in_ok-ended.ensures.high in
    let heard = simp (to_z-of_z, c.len.ensures) at c.in_ok-judged.ensures in
    let led = condition_on _ weighted c.args.flags conditions i _ item total p c.in_ok-outcome.outcome q item.text c.in_ok-ended.ended score c.judge_one.new.vars (c.condition-item.is, c.loop-condition-test.true) (refl, c.in_ok-ended.ensures.course)
    _ _ _ _ _ _ c.loop-condition.invariant.leads c.in_ok-outcome.ensures.carries.0 c.in_default.is in
    let hears = hearing_on _ weighted c.args.flags conditions i _ item total p item.text c.in_ok-outcome.outcome q c.in_ok-ended.ended score c.judge_one.new.vars (c.condition-item.is, c.loop-condition-test.true) (refl, c.in_ok-ended.ensures.course)
    _ _ _ _ _ _ _ _ _ c.loop-condition.invariant.hears c.in_ok-outcome.ensures.carries.0 c.in_default.is heard in
    record { leads = simp to_z-of_z led; low = simp to_z-of_z low; high = simp to_z-of_z high; hears = simp to_z-of_z hears }

pub returns : goal.returns
returns g c =
    let p = mind_of c.loop-condition.run.process in
    let conditions = c.args.conditions.now in
    let i = c.loop-condition.condition-index in
    let total = to_z w32 c.loop-condition.total-bits in
    let none : drop i conditions ≡ [] = at_drop_all (λ l. l) conditions i c.loop-condition-test.false in
    let r = record p { vars = c.note_score-2.new.vars } in
    record {
      carries = (
        conditions_over _ c.has_weight-weighted.result c.args.flags (drop i conditions) total p r c.end_of_all.result _ _ _ _ none c.loop-condition.invariant.leads c.end_of_all.ensures
            (ap (λ v. record p { vars = v }) c.note_score-2.ensures),
        tt,
      );
      hears = heard_all _ _ _ (judged_with c.end_of_all.result r) _ _ _ _ _ _
          (hearing_over _ c.has_weight-weighted.result c.args.flags (drop i conditions) total p r c.end_of_all.result _ _ _ _ _ _ none c.loop-condition.invariant.hears c.end_of_all.ensures
          (ap (λ v. record p { vars = v }) c.note_score-2.ensures));
    }
