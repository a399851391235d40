use Rattle.std.proofs.Common.{◌≡◌, ◌≤◌, ◌-◌, ◌+◌, length, take, drop, sym, ◌∙◌, ap, arith}
use Rattle.std.proofs.lemmas.List.{length-take}
use Rattle.pm_bytes.proofs.Parts.{part_of_part}
use Rattle.pm_bytes.proofs.shared.Shared.part.Goals as goal

pub returns : goal.returns
returns c =
    let s = c.self.inside in
    let bytes = s.bytes.value.items in
    let same : c.in_ok-clone.field-0.value.items ≡ bytes = ap (λ v. v.items) c.in_ok-clone.ensures.cases in
    let is : take (s.end - s.start) (drop s.start bytes) ≡ c.args.self.now = c.self.view_is in
    let long : length c.args.self.now ≡ length (take (s.end - s.start) (drop s.start bytes)) = ap length (sym is) in
    let within : c.args.to ≤ s.end - s.start = omega (arith, long, length-take (s.end - s.start) (drop s.start bytes), c.requires.within) in
    ap (λ l. take ((s.start + c.args.to) - (s.start + c.args.from)) (drop (s.start + c.args.from) l)) same
    ∙ part_of_part bytes s.start s.end c.args.from c.args.to c.self.invariant.0 c.requires.order within
    ∙ ap (λ l. take (c.args.to - c.args.from) (drop c.args.from l)) is
