use Rattle.std.proofs.Common.{◌≡◌, true, Some, sym, ◌∙◌, subst}
use Rattle.std.specs.Prelude.{slice_get}
use Rattle.pm_match.proofs.CacheLemmas.{replicate_get}
use Rattle.pm_match.proofs.RunLemmas.{no_begins}
use Rattle.pm_match.proofs.forward.make_forward.Goals as goal

pub returns : goal.returns
returns c = λ p entry len. record {
  cache = c.in_ok-cache.ensures true p entry len;
  begins = no_begins p entry c.in_ok-cache.cache.count c.in_ok-cache.cache.sets.items c.in_ok-begins.begins.items (λ k t is.
      let same = c.in_ok-begins.ensures.items_if_clones_equal (λ y e. e) in
      replicate_get 3 k 65535 t (subst (λ xs. slice_get xs k ≡ Some t) same is));
  contexts = c.in_ok-begins.ensures.len;
  labels = c.in_ok-labels.ensures.len ∙ sym len;
  next = c.in_ok-next.ensures.len ∙ sym len;
}
