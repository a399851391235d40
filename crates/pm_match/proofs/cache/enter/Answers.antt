use Rattle.std.proofs.Common.{false, vec_len, ap, sym, ◌∙◌}
use Rattle.pm_match.proofs.cache.enter.Goals as goal

pub returns-clause-ready : goal.returns-clause-ready
returns-clause-ready c = λ p exit h. record {
  sets = c.settle.ensures.sets;
  spare = c.settle.ensures.spare;
  made = ap (λ v. vec_len v) (c.settle.ensures.made ∙ c.number_of-number.ensures.made) ∙ c.copy_set.ensures.len ∙ sym c.requires.set ∙ h.made;
  links = c.settle.ensures.links false p exit (c.number_of-number.ensures.links false p exit h.links);
}
