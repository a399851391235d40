use Rattle.std.proofs.Common.{true, vec_len, ap, sym, ◌∙◌, subst, arith}
use Rattle.pm_match.specs.Forward.{IsRunSet}
use Rattle.pm_match.proofs.RunLemmas.{labels_set, begins_with, begun, begins_kept}
use Rattle.pm_match.proofs.forward.meet_first.Goals as goal

pub returns-clause-number : goal.returns-clause-number
returns-clause-number c =
    let p = c.args.program.now.steps.items in
    let entry = c.args.program.now.entry in
    let area = c.args.area.now in
    let set = labels_set p area entry c.args.start c.args.start c.start_run.new.labels.of.items c.save.new.set.items (omega arith) c.start_run.ensures.ahead c.save.ensures.exact in (
      c.settle_run-at.ensures.number,
      λ r is. subst (λ xs. IsRunSet p area entry c.args.start c.args.start xs)
          (sym (c.settle_run-at.ensures.same r is ∙ ap (λ v. v.items) c.number_of-number.ensures.made)) set,
    )

pub returns-clause-ready : goal.returns-clause-ready
returns-clause-ready c =
    let p = c.args.program.now.steps.items in
    let entry = c.args.program.now.entry in
    let area = c.args.area.now in
    let was = c.args.forward.now.cache in
    let met = c.number_of-number.new.cache in
    let now = c.settle_run-at.new.forward in
    let ready = c.requires.ready in
    let set = labels_set p area entry c.args.start c.args.start c.start_run.new.labels.of.items c.save.new.set.items (omega arith) c.start_run.ensures.ahead c.save.ensures.exact in
    record {
      cache = record {
        sets = c.settle_run-at.ensures.sets;
        spare = c.settle_run-at.ensures.spare;
        made = ap (λ v. vec_len v) (c.settle_run-at.ensures.made ∙ c.number_of-number.ensures.made) ∙ (c.save.ensures.len ∙ ready.cache.made);
        links = c.settle_run-at.ensures.links p entry (c.number_of-number.ensures.links true p entry ready.cache.links);
      };
      begins = begun p entry now.cache.count now.cache.sets.items now.begins.items c.context_at.result c.settle_run-at.result c.settle_run-at.ensures.number
          (c.settle_run-at.ensures.begins p entry (begins_kept p entry was.count was.sets.items met.count met.sets.items c.args.forward.now.begins.items
          c.number_of-number.ensures.count c.number_of-number.ensures.kept ready.begins))
          (λ r is. begins_with p entry area c.args.start c.context_at.result r.set.items c.requires.start (sym c.context_at.ensures.is)
          (subst (λ xs. IsRunSet p area entry c.args.start c.args.start xs)
          (sym (c.settle_run-at.ensures.same r is ∙ ap (λ v. v.items) c.number_of-number.ensures.made)) set));
      contexts = omega (arith, c.settle_run-at.ensures.contexts, ready.contexts);
      labels = ap (λ l. vec_len l.of) c.settle_run-at.ensures.labels ∙ c.start_run.ensures.len;
      next = ap (λ l. vec_len l.of) c.settle_run-at.ensures.next ∙ ready.next;
    }
