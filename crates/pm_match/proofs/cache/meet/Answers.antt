use Rattle.std.proofs.Common.{false, vec_len, ap, sym, ◌∙◌, subst}
use Rattle.pm_match.specs.Backward.{IsExitSet}
use Rattle.pm_match.proofs.EdgeLemmas.{read_byte}
use Rattle.pm_match.proofs.CacheLemmas.{precedes}
use Rattle.pm_match.proofs.cache.meet.Goals as goal

pub returns-clause-ready : goal.returns-clause-ready
returns-clause-ready c =
    let p = c.args.program.now.steps.items in
    let exit = c.args.program.now.exit in
    let area = c.args.area.now in
    record {
      sets = c.settle.ensures.sets;
      spare = c.settle.ensures.spare;
      made = ap (λ v. vec_len v) (c.settle.ensures.made ∙ (c.link.ensures.made ∙ c.number_of-to.ensures.made)) ∙ c.step_back.ensures.len;
      links = c.settle.ensures.links false p exit (c.link.ensures.links false p exit (c.number_of-to.ensures.links false p exit c.requires.ready.links)
          (λ s r is_s is_r. precedes p exit area c.args.place _ _ s.set.items r.set.items
          (read_byte area c.args.place c.requires.place, sym c.context_at.ensures.is)
          (c.requires.at.1 s (sym (c.number_of-to.ensures.kept c.args.at c.requires.at.0) ∙ is_s))
          (subst (λ xs. IsExitSet p area exit c.args.place xs) (sym (c.number_of-to.ensures.is r is_r)) c.step_back.ensures.back)));
    }
