use Rattle.std.proofs.Common.{◌≡◌, ◌<◌, ◌+◌, false, length, arith, ap, length-drop, rules}
use Rattle.std.specs.List.{position_or_len}
use Rattle.pm_bytes.specs.Name.{has_zero}
use Rattle.std.proofs.lemmas.Str.Pattern.{split_once_first}
use Rattle.pm_folders.proofs.Around.{is_slash, no_zero_before, no_zero_after, none_pushed, some_pushed, on_ok_map}
use Rattle.pm_folders.proofs.names.+push_unslashed.Goals as goal

pub push-requires : goal.push-requires
push-requires t c =
    let h = rw c.in-Some.is at (split_once_first 47 c.args.text.now c.split_once.result c.split_once.ensures.cases (omega arith)) in
    let z : has_zero c.args.text.now ≡ false = search rules in
    rw h.1 (no_zero_before c.args.text.now z)

pub push_unslashed-requires : goal.push_unslashed-requires
push_unslashed-requires t c =
    let h = rw c.in-Some.is at (split_once_first 47 c.args.text.now c.split_once.result c.split_once.ensures.cases (omega arith)) in
    let z : has_zero c.args.text.now ≡ false = search rules in
    let small : length c.in-Some.after.now < length c.args.text.now = omega (arith, h.0, ap length h.2, length-drop (position_or_len is_slash c.args.text.now + 1) c.args.text.now) in
    (search rules, rw h.2 (no_zero_after c.args.text.now z))

pub returns-in_ok-push-in-Some-2 : goal.returns-in_ok-push-in-Some-2
returns-in_ok-push-in-Some-2 t c =
    let h = rw c.in-Some.is at (split_once_first 47 c.args.text.now c.split_once.result c.split_once.ensures.cases (omega arith)) in
    on_ok_map c.push_unslashed.result c.push_unslashed.ensures (λ e. some_pushed _ _ _ _ _ _ _ h.0 h.1 h.2 c.in_ok-push-in-Some.ensures.ok c.in_ok-push-in-Some-2.ensures.ok e)

pub returns-in-None : goal.returns-in-None
returns-in-None t c =
    let h = rw c.in-None.is at (split_once_first 47 c.args.text.now c.split_once.result c.split_once.ensures.cases (omega arith)) in
    on_ok_map c.push-in-None.result c.push-in-None.ensures.ok (λ e. none_pushed _ _ _ h e)
