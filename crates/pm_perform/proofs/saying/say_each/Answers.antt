use Rattle.std.proofs.Common.{refl, rules, sym, ◌∙◌, subst}
use Rattle.pm_journal.proofs.PlanLeads.{leads_itself}
use Rattle.pm_journal.proofs.WantsMemory.{on_err}
use Rattle.pm_journal.specs.Executed.{Executes}
use Rattle.pm_meaning.specs.Delivering.{say_each}
use Rattle.pm_meaning.specs.Minds.{mind_of}
use Rattle.pm_meaning.specs.Apart.{acted_with}
use Rattle.pm_perform.proofs.SayingLemmas.{line_on, line_wants, lines_over, lines_were, lines_left}
use Rattle.pm_perform.proofs.saying.say_each.Goals as goal

pub loop-line-init : goal.loop-line-init
loop-line-init g c = record { leads = leads_itself _ _ _; same = refl; some = λ none. none }

pub returns-in_err-tell-clause-carries : goal.returns-in_err-tell-clause-carries
returns-in_err-tell-clause-carries g c =
    let p = mind_of c.args.run.now.process in
    (search rules, on_err _ _ (line_wants _ p c.loop-line.lines.items c.pop_front.new.self.items c.in-Some.line (acted_with c.args.acted p) _ _ _ _ _ _ c.loop-line.invariant.leads c.in-Some.ensures.items (rw c.loop-line.invariant.same at c.in_err-tell.ensures.carries.1)))

pub loop-line-preserved : goal.loop-line-preserved
loop-line-preserved g c =
    let p = mind_of c.args.run.now.process in
    record {
      leads = line_on _ p c.loop-line.lines.items c.pop_front.new.self.items c.in-Some.line (acted_with c.args.acted p) _ _ _ _ _ _ c.loop-line.invariant.leads c.in-Some.ensures.items (rw c.loop-line.invariant.same at c.in_ok-tell.ensures.carries.0);
      same = c.tell.ensures.same ∙ c.loop-line.invariant.same;
      some = lines_left c.args.lines.items c.loop-line.lines.items c.pop_front.new.self.items c.in-Some.line c.loop-line.invariant.some c.in-Some.ensures.items;
    }

pub returns-clause-carries : goal.returns-clause-carries
returns-clause-carries g c =
    let p = mind_of c.args.run.now.process in
    let over = lines_over _ p c.loop-line.lines.items (acted_with c.args.acted p) _ _ _ _ c.loop-line.invariant.leads (search rules) in
    (subst (λ m. Executes (say_each p c.args.lines.items (acted_with c.args.acted p)) (acted_with c.args.acted (mind_of m)) c.args.run.now.journal c.loop-line.run.journal (g.D.Asks.told c.args.run.now.outside) (g.D.Asks.told c.loop-line.run.outside)) (sym c.loop-line.invariant.same) over, tt)

pub returns-in_err-tell-clause-sure : goal.returns-in_err-tell-clause-sure
returns-in_err-tell-clause-sure g c = on_err _ _ (lines_were c.args.lines.items c.loop-line.lines.items c.pop_front.new.self.items c.in-Some.line c.loop-line.invariant.some c.in-Some.ensures.items)
