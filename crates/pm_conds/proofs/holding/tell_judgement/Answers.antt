use Rattle.std.proofs.Common.{true, false, refl}
use Rattle.pm_meaning.specs.Minds.{mind_of}
use Rattle.pm_journal.proofs.WantsMemory.{executes_nothing}
use Rattle.pm_meaning.specs.Judging.{held_with}
use Rattle.pm_conds.proofs.holding.tell_judgement.Goals as goal

pub returns-in-Matched : goal.returns-in-Matched
returns-in-Matched g c = record {
  carries = (
      let p = mind_of c.args.run.now.process in
      rw c.in-Matched.is (executes_nothing (held_with true p) _ _ _ refl, tt));
}

pub returns-in-Unmatched : goal.returns-in-Unmatched
returns-in-Unmatched g c = record {
  carries = (
      let p = mind_of c.args.run.now.process in
      rw c.in-Unmatched.is (executes_nothing (held_with false p) _ _ _ refl, tt));
}

pub returns-in-Defective : goal.returns-in-Defective
returns-in-Defective g c = record { carries = rw (c.in-Defective.is, c.tell_defect.ensures.same) c.tell_defect.ensures.carries }

pub returns-in-TooLong : goal.returns-in-TooLong
returns-in-TooLong g c = record { carries = rw c.in-TooLong.is c.tell_long.ensures.carries }
