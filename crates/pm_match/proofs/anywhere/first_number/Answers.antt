use Rattle.pm_match.specs.Lists.{IsIn, Has}
use Rattle.pm_match.proofs.ListLemmas.{labels_list, same_states, some_map}
use Rattle.pm_match.proofs.anywhere.first_number.Goals as goal

pub returns-clause-ready : goal.returns-clause-ready
returns-clause-ready c =
    let g = c.args.program.now in
    record {
      bounded = c.settle.ensures.bounded;
      met = c.settle.ensures.met g.steps.items g.entry g.exit c.requires.ready.met (c.is_reached.ensures.no c.if-is_reached.false);
      fits = c.start_run.ensures.len;
    }

pub returns-clause-number : goal.returns-clause-number
returns-clause-number c =
    let p = c.args.program.now.steps.items in
    let area = c.args.area.now in
    let entry = c.args.program.now.entry in
    let labels = c.start_run.new.labels in
    let now = labels_list p area entry 0 labels.of.items labels.states.items labels.listed labels.held c.start_run.ensures.ahead in
    some_map c.settle.result _ _
    (λ v it. (it.span, it.is, same_states p area entry 0 (IsIn labels.states.items) (Has c.settle.new.sets.states.items it.span) it.same now))
    c.settle.ensures.number
