use Rattle.std.proofs.Common.{◌≡◌, length, true, None, Option, ℕ, Bool, rules, sym, ap, ◌∙◌}
use Rattle.std.specs.Prelude.{nat_le, if◌then◌else◌}
use Rattle.pm_bytes.specs.Number.{count_of}
use Rattle.formail_top.proofs.words.number.Goals as goal

pub returns : goal.returns
returns g =
    let few : nat_le (length g.args.text.now) 9 ≡ true = search rules in
    let found : Bool → Option ℕ = λ fits. if fits then count_of g.args.text.now else None in
    g.read_count.ensures.value ∙ sym (ap found few)
