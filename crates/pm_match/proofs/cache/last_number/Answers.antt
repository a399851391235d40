use Rattle.std.proofs.Common.{false, length, vec_len, ap, sym, ◌∙◌, subst}
use Rattle.pm_match.specs.Backward.{IsExitSet}
use Rattle.pm_match.proofs.cache.last_number.Goals as goal

pub returns-clause-ready : goal.returns-clause-ready
returns-clause-ready c =
    let p = c.args.program.now.steps.items in
    let exit = c.args.program.now.exit in
    record {
      sets = c.settle.ensures.sets;
      spare = c.settle.ensures.spare;
      made = ap (λ v. vec_len v) (c.settle.ensures.made ∙ c.number_of-number.ensures.made) ∙ c.set_at_end.ensures.set;
      links = c.settle.ensures.links false p exit (c.number_of-number.ensures.links false p exit c.requires.ready.links);
    }

pub returns-clause-number : goal.returns-clause-number
returns-clause-number c = (
  c.settle.ensures.in_use,
  λ s is. subst (λ xs. IsExitSet c.args.program.now.steps.items c.args.area.now c.args.program.now.exit (length c.args.area.now) xs)
      (sym (c.settle.ensures.is s is ∙ ap (λ v. v.items) c.number_of-number.ensures.made)) c.set_at_end.ensures.back,
)
