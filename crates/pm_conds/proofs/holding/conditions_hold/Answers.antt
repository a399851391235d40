use Rattle.std.proofs.Common.{rules}
use Rattle.pm_journal.proofs.WantsMemory.{on_err, out_front}
use Rattle.pm_meaning.specs.Judging.{judge, judged_with, after_judgement}
use Rattle.pm_meaning.specs.Minds.{mind_of}
use Rattle.pm_meaning.proofs.Sequences.{then_carries}
use Rattle.pm_conds.proofs.NoteLemmas.{held_heard}
use Rattle.pm_conds.proofs.holding.conditions_hold.Goals as goal

pub returns-in_err-judgement : goal.returns-in_err-judgement
returns-in_err-judgement g c = record {
  carries = (
      let plan = judge c.args.conditions.now c.args.flags (mind_of c.args.run.now.process) in
      (search rules, on_err _ _ (out_front plan after_judgement _ _ _ _ c.in_err-judgement.ensures.carries.1)));
  hears = search rules;
}

pub returns : goal.returns
returns g c =
    let judged = judged_with c.in_ok-judgement.judgement (mind_of c.judge.new.run.process) in
    record {
      carries = (
          let plan = judge c.args.conditions.now c.args.flags (mind_of c.args.run.now.process) in
          then_carries plan after_judgement judged _ _ _ _ _ _ _ _ c.in_ok-judgement.ensures.carries.0 c.tell_judgement.ensures.carries);
      hears = held_heard _ _ _ judged _ _ _ _ _ _ _ _ _ c.in_ok-judgement.ensures.hears c.tell_judgement.ensures.carries.0;
    }
