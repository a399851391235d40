-- A cache stays within its bound.
use Rattle.std.proofs.Common.{◌≡◌, ◌≤◌, ◌<◌, ℕ, ◌+◌, true, false, List, [], ◌∷◌, ◌++◌, take, length, codes, nat_le, bytes_eq, nat_eq, ◌||◌, Option, Some, None, refl, sym, subst, arith, All, length-append, length-take, if◌then◌else◌}
use Rattle.std.specs.List.{ends_with}
use Rattle.std.proofs.lemmas.Bool.Decides.{nat_tests}
use Rattle.std.proofs.lemmas.List.Elements.{All-nil, All-cons, All-head, All-tail}
use Rattle.pm_host.specs.declared.nodes.Node.{Node}
use Rattle.pm_journal.specs.Deliveries.{bytes_at}
use Rattle.formail_extra.specs.Cache.{is_seen, left_of, line_end_of, addition_to, next_of, cache_after, IsShortId, marks_of}
use Rattle.formail_extra.specs.Tree.{marks_at, part_of, BroughtInPart, whole, partly, StaysBounded}
use Rattle.formail_extra.proofs.FrontMarks.{left_none, left_all}

line_end_short : (bytes : List ℕ) → length (line_end_of bytes) ≤ 1
line_end_short bytes =
    elim (bytes_eq bytes [] || ends_with nat_eq bytes (codes "\n")) as (λ b. length (if b then [] else codes "\n") ≤ 1) [ true ↦ omega arith | false ↦ omega arith ]

addition_length : (bytes line : List ℕ) → length (addition_to bytes line) ≡ length (line_end_of bytes) + length line + 1
addition_length bytes line =
    let one = length-append (line_end_of bytes ++ line) (codes "\n") in
    let two = length-append (line_end_of bytes) line in
    omega (arith, one, two)

addition_short : (bytes line : List ℕ) → length line ≤ 4096 → length (addition_to bytes line) ≤ 4098
addition_short bytes line short = omega (arith, line_end_short bytes, short, addition_length bytes line)

addition_to_none : (line : List ℕ) → length line ≤ 4096 → length (addition_to [] line) ≤ 4097
addition_to_none line short = let size : length (addition_to [] line) ≡ length line + 1 = length-append line (codes "\n") in omega (arith, short, size)

-- a front of what an addition leaves
part_short : (most : ℕ) (bytes line : List ℕ) (count : ℕ) → length line ≤ 4096 → length (part_of most bytes line count) ≤ most + 4097
part_short most bytes line count short =
    elim (nat_le most (length bytes)) as (λ b. nat_le most (length bytes) ≡ b → length (part_of most bytes line count) ≤ most + 4097) [
      | true ↦ λ full.
          let is : left_of most bytes ≡ [] = left_none most bytes (grind (arith, nat_tests)) in
          subst (λ l. length (l ++ take count (addition_to l line)) ≤ most + 4097) (sym is)
          (omega (arith, addition_to_none line short, length-take count (addition_to [] line)))
      | false ↦ λ few.
          let less : length bytes < most = grind (arith, nat_tests) in
          let is : left_of most bytes ≡ bytes = left_all most bytes less in
          subst (λ l. length (l ++ take count (addition_to l line)) ≤ most + 4097) (sym is)
          (omega (arith, less, addition_short bytes line short, length-take count (addition_to bytes line), length-append bytes (take count (addition_to bytes line))))
    ] refl

next_short : (most : ℕ) (bytes line : List ℕ) → length line ≤ 4096 → length (next_of most bytes line) ≤ most + 4097
next_short most bytes line short =
    elim (nat_le most (length bytes)) as (λ b. nat_le most (length bytes) ≡ b → length (next_of most bytes line) ≤ most + 4097) [
      | true ↦ λ full.
          let is : left_of most bytes ≡ [] = left_none most bytes (grind (arith, nat_tests)) in
          subst (λ l. length (l ++ addition_to l line) ≤ most + 4097) (sym is) (omega (arith, addition_to_none line short))
      | false ↦ λ few.
          let less : length bytes < most = grind (arith, nat_tests) in
          let is : left_of most bytes ≡ bytes = left_all most bytes less in
          subst (λ l. length (l ++ addition_to l line) ≤ most + 4097) (sym is)
          (omega (arith, less, addition_short bytes line short, length-append bytes (addition_to bytes line)))
    ] refl

after_short : (most : ℕ) (bytes : List ℕ) (id : Option (List ℕ)) → IsShortId id → length bytes ≤ most + 4097 → length (cache_after most bytes id) ≤ most + 4097
after_short most bytes None short bounded = bounded
after_short most bytes (Some line) short bounded =
    elim (is_seen bytes line) as (λ b. length (if b then bytes else next_of most bytes line) ≤ most + 4097) [ true ↦ bounded | false ↦ next_short most bytes line short ]

marks_short : (most : ℕ) (bytes : List ℕ) (ids : List (Option (List ℕ))) → All IsShortId ids → length bytes ≤ most + 4097 → length (marks_of most bytes ids).cache ≤ most + 4097
marks_short most bytes [] short bounded = bounded
marks_short most bytes (id ∷ ids) short bounded =
    marks_short most (cache_after most bytes id) ids (All-tail IsShortId id ids short) (after_short most bytes id (All-head IsShortId id ids short) bounded)

all_first : (first rest : List (Option (List ℕ))) → All IsShortId (first ++ rest) → All IsShortId first
all_first [] rest short = All-nil IsShortId
all_first (id ∷ first) rest short =
    All-cons IsShortId id first (All-head IsShortId id (first ++ rest) short) (all_first first rest (All-tail IsShortId id (first ++ rest) short))

all_rest : (first rest : List (Option (List ℕ))) → All IsShortId (first ++ rest) → All IsShortId rest
all_rest [] rest short = short
all_rest (id ∷ first) rest short = all_rest first rest (All-tail IsShortId id (first ++ rest) short)

-- what was brought to the cache in part stays within its bound
pub part_bounded : (most : ℕ) (ids : List (Option (List ℕ))) (there here : Option Node) → All IsShortId ids → BroughtInPart most ids there here → StaysBounded most there here
part_bounded most ids there here short (whole first rest is brought) bounded =
    subst (λ l. length l ≤ most + 4097) (sym brought.bytes)
    (marks_short most (bytes_at there) first (all_first first rest (subst (All IsShortId) is short)) bounded)
part_bounded most ids there here short (partly first line rest count is bytes) bounded =
    let line_short = All-head IsShortId (Some line) rest (all_rest first (Some line ∷ rest) (subst (All IsShortId) is short)) in
    subst (λ l. length l ≤ most + 4097) (sym bytes) (part_short most (marks_at most first there).cache line count line_short)
