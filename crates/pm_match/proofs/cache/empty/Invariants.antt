use Rattle.std.proofs.Common.{◌≡◌, ℕ, ◌<◌, Some, vec_len}
use Rattle.std.specs.Prelude.{slice_get}
use Rattle.pm_match.proofs.cache.empty.Given as goal

abbrev pub invariant-loop-index : goal.invariant-loop-index
invariant-loop-index l = record {
  len : vec_len l.links ≡ vec_len l.initial.links;
  none : (k t : ℕ) → k < l.index → slice_get l.links.items k ≡ Some t → t ≡ 65535;
}
