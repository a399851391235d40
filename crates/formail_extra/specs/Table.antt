-- The rounds in which identifiers were marked.
use Rattle.std.specs.Prelude.{◌≡◌, ◌≤◌, ℕ, Option, Some, List, Vec, option_map, if◌then◌else◌}
use Rattle.std.specs.BTreeMap.{BTreeMap, get_by}
use Rattle.std.specs.Cmp.Lexicographic.{slice_cmp}
use Rattle.std.specs.List.{list_any}
use Rattle.std.specs.Ordering.{nat_cmp}
use Rattle.formail_extra.specs.Cache.{is_line_of}

-- the round in which an identifier was marked last
abbrev pub mark_at : {A : Type 0} → BTreeMap (Vec ℕ A) ℕ → List ℕ → Option ℕ
mark_at table id = get_by (λ k. slice_cmp nat_cmp id k.items) table

-- the round of an identifier once these lines are marked
abbrev pub marked_by : List (List ℕ) → ℕ → List ℕ → Option ℕ → Option ℕ
marked_by all round id last = if list_any (is_line_of id) all then option_map (λ _. round) last else last

-- no mark is of a later round
abbrev pub ArePast : {A : Type 0} → BTreeMap (Vec ℕ A) ℕ → ℕ → Type 0
ArePast table round = (id : List ℕ) (last : ℕ) → mark_at table id ≡ Some last → last ≤ round
