use Rattle.std.proofs.Common.{ℕ, ◌+◌, true, vec_len, ap, sym, ◌∙◌, subst, arith}
use Rattle.pm_match.specs.Labels.{Below}
use Rattle.pm_match.specs.Forward.{IsRunSet}
use Rattle.pm_match.specs.Backward.{Holds}
use Rattle.std.specs.Prelude.{slice_get}
use Rattle.std.proofs.lemmas.Option.{slice_get_read}
use Rattle.pm_match.proofs.EdgeLemmas.{read_byte}
use Rattle.pm_match.proofs.RunLemmas.{labels_set, set_labels, follows, begins_kept}
use Rattle.pm_match.proofs.forward.meet_next.Goals as goal

pub returns-clause-number : goal.returns-clause-number
returns-clause-number c = λ start at.
    let p = c.args.program.now.steps.items in
    let entry = c.args.program.now.entry in
    let area = c.args.area.now in
    let place = c.args.place in
    let cache = c.args.forward.now.cache in
    let is = slice_get_read cache.sets.items _ _ _ cache.sets.ok.0 (let lt = at.0 in omega (arith, lt, c.requires.ready.cache.spare)) c.index.ensures in
    let was = at.1 c.index.result.now is in
    let here = set_labels p area entry start place c.index.result.now.set.items c.load.new.labels.of.items was
    (subst (λ xs. (q v : ℕ) → Below c.load.new.labels.of.items q v → Holds xs q) c.deref.ensures.value c.load.ensures.sound)
    (subst (λ xs. (q : ℕ) → Holds xs q → (v : ℕ) × Below c.load.new.labels.of.items q v) c.deref.ensures.value c.load.ensures.whole) in
    let set = labels_set p area entry start (place + 1) c.step_forward.new.labels.of.items c.save.new.set.items (let low = was.after in omega (arith, low))
    (c.step_forward.ensures.ahead entry start was.after here) c.save.ensures.exact in (
      c.settle_run.ensures.number,
      λ r now. subst (λ xs. IsRunSet p area entry start (place + 1) xs)
          (sym (c.settle_run.ensures.same r now ∙ ap (λ v. v.items) (c.link.ensures.made ∙ c.number_of-to.ensures.made))) set,
    )

pub returns-clause-ready : goal.returns-clause-ready
returns-clause-ready c =
    let p = c.args.program.now.steps.items in
    let entry = c.args.program.now.entry in
    let area = c.args.area.now in
    let place = c.args.place in
    let start = c.requires.at.0 in
    let at = c.requires.at.1 in
    let cache = c.args.forward.now.cache in
    let linked = c.link.new.cache in
    let ready = c.requires.ready in
    let is = slice_get_read cache.sets.items _ _ _ cache.sets.ok.0 (let lt = at.0 in omega (arith, lt, ready.cache.spare)) c.index.ensures in
    let was = at.1 c.index.result.now is in
    let here = set_labels p area entry start place c.index.result.now.set.items c.load.new.labels.of.items was
    (subst (λ xs. (q v : ℕ) → Below c.load.new.labels.of.items q v → Holds xs q) c.deref.ensures.value c.load.ensures.sound)
    (subst (λ xs. (q : ℕ) → Holds xs q → (v : ℕ) × Below c.load.new.labels.of.items q v) c.deref.ensures.value c.load.ensures.whole) in
    let set = labels_set p area entry start (place + 1) c.step_forward.new.labels.of.items c.save.new.set.items (let low = was.after in omega (arith, low))
    (c.step_forward.ensures.ahead entry start was.after here) c.save.ensures.exact in
    record {
      cache = record {
        sets = c.settle_run.ensures.sets;
        spare = c.settle_run.ensures.spare;
        made = ap (λ v. vec_len v) (c.settle_run.ensures.made ∙ (c.link.ensures.made ∙ c.number_of-to.ensures.made)) ∙ (c.save.ensures.len ∙ ready.cache.made);
        links = c.settle_run.ensures.links p entry (c.link.ensures.links true p entry (c.number_of-to.ensures.links true p entry ready.cache.links)
            (λ s r is_s is_r. follows p entry area start place _ _ s.set.items r.set.items
            (read_byte area place c.requires.place, sym c.end_context_at.ensures.is)
            (at.1 s (sym (c.number_of-to.ensures.kept c.args.at at.0) ∙ is_s))
            (subst (λ xs. IsRunSet p area entry start (place + 1) xs) (sym (c.number_of-to.ensures.is r is_r)) set)));
      };
      begins = c.settle_run.ensures.begins p entry (begins_kept p entry cache.count cache.sets.items linked.count linked.sets.items c.args.forward.now.begins.items
          (omega (arith, c.number_of-to.ensures.count, c.link.ensures.count))
          (λ v lt. ap (λ xs. slice_get xs.items v) c.link.ensures.same ∙ c.number_of-to.ensures.kept v lt) ready.begins);
      contexts = c.settle_run.ensures.contexts ∙ ready.contexts;
      labels = ap (λ l. vec_len l.of) c.settle_run.ensures.labels ∙ c.step_forward.ensures.labels;
      next = ap (λ l. vec_len l.of) c.settle_run.ensures.next ∙ c.step_forward.ensures.next;
    }
