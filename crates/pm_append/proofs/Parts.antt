-- A text that is written part by part.
use Rattle.std.proofs.Common.{◌≡◌, ◌≤◌, ℕ, ◌+◌, List, ◌++◌, length, take, drop, Option, sym, ap, ◌∙◌, arith, append_assoc, take-add, length-take}
use Rattle.std.proofs.lemmas.List.{take-take}
use Rattle.pm_host.specs.Told.{Tells, Adds}
use Rattle.pm_host.proofs.RunsJoin.{tells_then}

-- a part more is taken
pub write_more : (text : List ℕ) (taken n k : ℕ) (x y z : Option (List ℕ)) → n ≤ length (take k (drop taken text))
    → Tells (Adds (take taken text)) x y → Tells (Adds (take n (take k (drop taken text)))) y z → Tells (Adds (take (taken + n) text)) x z
write_more text taken n k x y z fits h =
    let within : n ≤ k = omega (arith, length-take k (drop taken text)) in
    let same : take taken text ++ take n (take k (drop taken text)) ≡ take (taken + n) text =
    ap (λ l. take taken text ++ l) (take-take n k (drop taken text) within) ∙ sym (take-add taken n text) in
    tells_then (Adds (take taken text)) (Adds (take n (take k (drop taken text)))) (Adds (take (taken + n) text))
    (λ a b c p q. q ∙ ap (λ l. l ++ take n (take k (drop taken text))) p ∙ append_assoc a (take taken text) (take n (take k (drop taken text))) ∙ ap (λ l. a ++ l) same) x y z h
