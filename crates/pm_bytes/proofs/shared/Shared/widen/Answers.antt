use Rattle.std.proofs.Common.{◌≡◌, ◌-◌, ◌+◌, ◌++◌, ◌∙◌, length, take, drop, sym, ap, arith}
use Rattle.std.proofs.lemmas.Slice.Eq.{bytes_eq-Decides}
use Rattle.pm_bytes.proofs.shared.Shared.widen.Goals as goal
use Rattle.pm_bytes.proofs.Parts.{widened}

pub returns-then-found-clause-yes : goal.returns-then-found-clause-yes
returns-then-found-clause-yes c _ =
    let s = c.self.inside in
    let more = c.args.more.now in
    let stored : c.as_slice-stored.result.now ≡ s.bytes.value.items = c.as_slice-stored.ensures.value ∙ ap (λ v. v.items) c.deref.ensures in
    let long : (s.end + length more) - s.end ≡ length more = omega arith in
    let is : take ((s.end + length more) - s.end) (drop s.end c.as_slice-stored.result.now) ≡ more =
    (bytes_eq-Decides _ _).0 (sym c.eq-found.ensures ∙ c.if-found.true) in
    let behind : take (length more) (drop s.end s.bytes.value.items) ≡ more =
    ap (λ n. take n (drop s.end s.bytes.value.items)) (sym long)
    ∙ ap (λ l. take ((s.end + length more) - s.end) (drop s.end l)) (sym stored) ∙ is in
    widened s.bytes.value.items more s.start s.end c.self.invariant.0 behind
    ∙ ap (λ l. l ++ more) c.self.view_is
