use Rattle.std.proofs.Common.{◌≡◌, [], arith, reverse, rules, ap}
use Rattle.pm_journal.proofs.WalkJoin.{reaches_itself}
use Rattle.pm_meaning.specs.Minds.{mind_of}
use Rattle.pm_meaning.specs.Running.{Opening, step}
use Rattle.pm_run.specs.Ends.{rule_of_opening}
use Rattle.pm_run.proofs.OpeningLemmas.{opening_on, opening_ends, opening_reads, opening_wants, last_first, openings_read, none_first, none_later}
use Rattle.pm_run.proofs.opening.open_first.Goals as goal

pub loop-name-init : goal.loop-name-init
loop-name-init g c = record { reaches = reaches_itself step _ _ _; counted = omega arith }

pub returns-in-Err-clause-memory : goal.returns-in-Err-clause-memory
returns-in-Err-clause-memory g c =
    let o = rule_of_opening c.args.rule in
    let start = Opening o (reverse c.args.names.items) (mind_of c.args.run.now.process) in
    opening_wants start o (reverse c.loop-name.names.items) (reverse c.pop.new.self.items) c.in-Some.name (mind_of c.loop-name.run.process) (mind_of c.open_one.new.run.process) c.args.run.now.journal c.loop-name.run.journal c.open_one.new.run.journal _ _ _ (last_first c.loop-name.names.items c.pop.new.self.items c.in-Some.name c.in-Some.ensures.items) c.loop-name.invariant.reaches c.in-Err.ensures.memory

pub returns-in-Continue-Some-clause-opens : goal.returns-in-Continue-Some-clause-opens
returns-in-Continue-Some-clause-opens g c =
    let o = rule_of_opening c.args.rule in
    let start = Opening o (reverse c.args.names.items) (mind_of c.args.run.now.process) in
    let opens = rw (c.in-Continue-Some.is, c.in-Continue-Some.field-0-is) at c.in-Ok.ensures.opens in
    opening_reads start o (reverse c.loop-name.names.items) (reverse c.pop.new.self.items) c.in-Some.name (mind_of c.loop-name.run.process) (mind_of c.open_one.new.run.process) c.args.run.now.journal c.loop-name.run.journal c.open_one.new.run.journal _ _ _ (last_first c.loop-name.names.items c.pop.new.self.items c.in-Some.name c.in-Some.ensures.items) c.loop-name.invariant.reaches
    c.in-Continue-Some.code _ opens (search rules)

pub returns-in-Continue-Some-clause-counted : goal.returns-in-Continue-Some-clause-counted
returns-in-Continue-Some-clause-counted g c =
    let opens = rw (c.in-Continue-Some.is, c.in-Continue-Some.field-0-is) at c.in-Ok.ensures.opens in
    λ e. omega (arith, c.loop-name.invariant.counted, openings_read (rule_of_opening c.args.rule) c.in-Some.name c.in-Continue-Some.code (mind_of c.loop-name.run.process) (mind_of c.open_one.new.run.process) _ _ _ _ opens)

pub returns-in-Continue-Some-clause-most : goal.returns-in-Continue-Some-clause-most
returns-in-Continue-Some-clause-most g c =
    let opens = rw (c.in-Continue-Some.is, c.in-Continue-Some.field-0-is) at c.in-Ok.ensures.opens in
    λ e. omega (arith, opens.few, openings_read (rule_of_opening c.args.rule) c.in-Some.name c.in-Continue-Some.code (mind_of c.loop-name.run.process) (mind_of c.open_one.new.run.process) _ _ _ _ opens)

pub returns-in-Break-clause-opens : goal.returns-in-Break-clause-opens
returns-in-Break-clause-opens g c =
    let o = rule_of_opening c.args.rule in
    let start = Opening o (reverse c.args.names.items) (mind_of c.args.run.now.process) in
    let opens = rw c.in-Break.is at c.in-Ok.ensures.opens in
    opening_ends start o (reverse c.loop-name.names.items) (reverse c.pop.new.self.items) c.in-Some.name (mind_of c.loop-name.run.process) (mind_of c.open_one.new.run.process) c.args.run.now.journal c.loop-name.run.journal c.open_one.new.run.journal _ _ _ (last_first c.loop-name.names.items c.pop.new.self.items c.in-Some.name c.in-Some.ensures.items) c.loop-name.invariant.reaches c.in-Break.end opens

pub loop-name-preserved : goal.loop-name-preserved
loop-name-preserved g c =
    let o = rule_of_opening c.args.rule in
    let start = Opening o (reverse c.args.names.items) (mind_of c.args.run.now.process) in
    let opens = rw (c.in-Continue-None.is, c.in-Continue-None.field-0-is) at c.in-Ok.ensures.opens in
    record {
      reaches = opening_on start o (reverse c.loop-name.names.items) (reverse c.pop.new.self.items) c.in-Some.name (mind_of c.loop-name.run.process) (mind_of c.open_one.new.run.process) c.args.run.now.journal c.loop-name.run.journal c.open_one.new.run.journal _ _ _ (last_first c.loop-name.names.items c.pop.new.self.items c.in-Some.name c.in-Some.ensures.items) c.loop-name.invariant.reaches opens;
      counted = omega (arith, c.loop-name.invariant.counted, opens.counted);
    }

pub returns-then-is_empty-clause-opens : goal.returns-then-is_empty-clause-opens
returns-then-is_empty-clause-opens g c =
    let o = rule_of_opening c.args.rule in
    let start = Opening o (reverse c.args.names.items) (mind_of c.args.run.now.process) in
    let none : c.loop-name.names.items ≡ [] = search rules in
    none_first start o (reverse c.loop-name.names.items) (mind_of c.loop-name.run.process) c.args.run.now.journal c.loop-name.run.journal _ _ (ap reverse none) (search rules) c.loop-name.invariant.reaches

pub returns-clause-opens : goal.returns-clause-opens
returns-clause-opens g c =
    let o = rule_of_opening c.args.rule in
    let start = Opening o (reverse c.args.names.items) (mind_of c.args.run.now.process) in
    let none : c.loop-name.names.items ≡ [] = search rules in
    none_later start o (reverse c.loop-name.names.items) (mind_of c.loop-name.run.process) c.args.run.now.journal c.loop-name.run.journal _ _ (ap reverse none) (search rules) c.loop-name.invariant.reaches
