-- No more is cut off a file than was added, change by change.
use Rattle.std.proofs.Common.{◌≡◌, ◌≤◌, ◌+◌, ◌-◌, ◌^◌, ℕ, min, Bool, true, false, List, [], ◌∷◌, refl, ap, subst, arith}
use Rattle.std.specs.Prelude.{Some, None, nat_le, if◌then◌else◌, option_and_then, unwrap_or}
use Rattle.std.proofs.lemmas.Option.{none-some}
use Rattle.pm_real.specs.View.{FileView}
use Rattle.pm_real.specs.Kept.{Change, appended, left_of, with_left, after_all, bytes_added, bytes_cut}
use Rattle.pm_real.specs.Kept.Change.{Appends, Cuts}

at_most_sum : (a b : ℕ) → min a b ≤ a
at_most_sum a b = grind arith

enough : (b : Bool) (more : List Change) (file last : FileView) (off added : ℕ) → nat_le off added ≡ b
    → option_and_then (after_all more) (with_left file (if b then Some (Some (added - off)) else None)) ≡ Some last
    → (off ≤ added) × (after_all more (record file { added = Some (added - off) }) ≡ Some last)
enough true more file last off added test ran = (grind (arith, test), ran)
enough false more file last off added test ran = absurd (none-some last ran)

within : (b : Bool) (more : List Change) (file last : FileView) (off added : ℕ) → file.added ≡ Some added
    → option_and_then (after_all more) (if b then with_left file (left_of off file.added) else None) ≡ Some last
    → (off ≤ added) × (after_all more (record file { added = Some (added - off) }) ≡ Some last)
within true more file last off added has ran =
    enough (nat_le off added) more file last off added refl (subst (λ a. option_and_then (after_all more) (with_left file (left_of off a)) ≡ Some last) has ran)
within false more file last off added has ran = absurd (none-some last ran)

pub no_more : (changes : List Change) (file last : FileView) (added : ℕ) → file.added ≡ Some added → after_all changes file ≡ Some last → bytes_cut changes ≤ added + bytes_added changes
no_more [] file last added has ran = omega arith
no_more (Appends count ∷ more) file last added has ran =
    let now = min (unwrap_or file.added 0 + count) (2 ^ 64 - 1) in
    let ih = no_more more (appended count file) last now refl ran in
    let is : unwrap_or file.added 0 ≡ added = ap (λ a. unwrap_or a 0) has in
    let least = at_most_sum (unwrap_or file.added 0 + count) (2 ^ 64 - 1) in
    omega (arith, ih, is, least)
no_more (Cuts size len ∷ more) file last added has ran =
    let cut = within (nat_le len size) more file last (size - len) added has ran in
    let ih = no_more more (record file { added = Some (added - (size - len)) }) last (added - (size - len)) refl cut.1 in
    omega (arith, ih, cut.0)
