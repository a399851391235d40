-- The parts of the names that stand in a folder, as they are gathered from a tree.
use Rattle.std.proofs.Common.{◌≡◌, ℕ, Bool, true, false, cond, ◌&&◌, List, [], ◌∷◌, ◌++◌, Option, Some, None, refl, sym, ap, ◌∙◌, subst, nat_eq, String, Global, string_bytes, string_cmp, nat_cmp, is_eq, is_lt, Ordering, Less, Equal, Contains, arith, append_assoc, ap₂, zero-lt-suc, length, IsSome, inr, true≢false}
use Rattle.std.specs.BTreeMap.{get_by_text, get, keys, IsOrdered}
use Rattle.std.specs.Cmp.Lexicographic.{slice_cmp, texts_ties, bytes_decides}
use Rattle.std.specs.List.{AllByRecursion}
use Rattle.std.specs.List.Sorted.{IsStrictlySortedBy}
use Rattle.std.specs.Map.{lookup, keys_of}
use Rattle.std.specs.Ordering.{ordering_then}
use Rattle.std.proofs.lemmas.Cmp.{same_from_slice_cmp}
use Rattle.std.proofs.lemmas.List.Elements.{Contains-append_right}
use Rattle.std.proofs.lemmas.Bool.Decides.{nat_tests}
use Rattle.std.proofs.lemmas.Map.Keys.{sorted_head, sorted_tail}
use Rattle.pm_host.specs.World.{Nodes, AllStand, AreSorted, ListsRight, comes_before, inside, is_part, IsThere}
use Rattle.pm_host.specs.declared.nodes.Node.{Node}
use Rattle.pm_bytes.specs.Name.{is_usable}
use Rattle.pm_memory.specs.Folders.{IsPartIn, CantList}
use Rattle.pm_memory.specs.Node.{Explains}
use Rattle.pm_memory.specs.declared.tree.Denied.{Denied}
use Rattle.pm_memory.specs.declared.tree.Denied.TheVariants.{ToFail, WrongKind, Memory}
use Rattle.pm_memory.proofs.Updates.{NodeMap}

-- what stands after this front of a text
abbrev behind : List ℕ → List ℕ → Option (List ℕ)
behind [] text = Some text
behind (a ∷ front) [] = None
behind (a ∷ front) (b ∷ bs) = cond (nat_eq a b) (behind front bs) None

-- the part after a slash
abbrev part_after : Option (List ℕ) → Option (List ℕ)
part_after None = None
part_after (Some []) = None
part_after (Some (b ∷ bs)) = cond (nat_eq b 47 && is_part bs) (Some bs) None

-- the last part of the name of something directly in the folder
abbrev pub the_part : List ℕ → List ℕ → Option (List ℕ)
the_part folder name = part_after (behind folder name)

-- with one more in front, where there is one
abbrev pub with_part : Option (List ℕ) → List (List ℕ) → List (List ℕ)
with_part None parts = parts
with_part (Some part) parts = part ∷ parts

-- the parts of all these names, in their order
abbrev pub parts_in : List ℕ → List (String Global) → List (List ℕ)
parts_in folder [] = []
parts_in folder (name ∷ names) = with_part (the_part folder (string_bytes name)) (parts_in folder names)

-- ---- the part of one name

same_byte : (a : ℕ) → nat_eq a a ≡ true
same_byte a = grind arith

after_front : (front text : List ℕ) → behind front (front ++ text) ≡ Some text
after_front [] text = refl
after_front (a ∷ front) text = ap (λ t. cond t (behind front (front ++ text)) None) (same_byte a) ∙ after_front front text

-- it is found
found_part : (folder part : List ℕ) → is_part part ≡ true → the_part folder (inside folder part) ≡ Some part
found_part folder part is = ap part_after (after_front folder (47 ∷ part)) ∙ ap (λ t. cond t (Some part) None) is

some_is : (front text : List ℕ) (part : List ℕ) → behind front text ≡ Some part → text ≡ front ++ part
some_is [] text part e = grind arith
some_is (a ∷ front) [] part e = grind arith
some_is (a ∷ front) (b ∷ bs) part e =
    elim (nat_eq a b) as (λ t. nat_eq a b ≡ t → cond t (behind front bs) None ≡ Some part → b ∷ bs ≡ a ∷ (front ++ part)) [
      | true ↦ λ t h. let rest = some_is front bs part h in grind arith
      | false ↦ λ t h. grind arith
    ] refl e

after_slash : (rest : Option (List ℕ)) (part : List ℕ) → part_after rest ≡ Some part → (rest ≡ Some (47 ∷ part)) × (is_part part ≡ true)
after_slash None part e = grind arith
after_slash (Some []) part e = grind arith
after_slash (Some (b ∷ bs)) part e =
    elim (nat_eq b 47) as (λ t. nat_eq b 47 ≡ t → cond (t && is_part bs) (Some bs) None ≡ Some part → (Some (b ∷ bs) ≡ Some (47 ∷ part)) × (is_part part ≡ true)) [
      | true ↦ λ t. elim (is_part bs) as (λ u. is_part bs ≡ u → cond u (Some bs) None ≡ Some part → (Some (b ∷ bs) ≡ Some (47 ∷ part)) × (is_part part ≡ true)) [
        | true ↦ λ u h. grind arith
        | false ↦ λ u h. grind arith
      ] refl
      | false ↦ λ t h. grind arith
    ] refl e

-- what is found is it
pub part_is : (folder name part : List ℕ) → the_part folder name ≡ Some part → (name ≡ inside folder part) × (is_part part ≡ true)
part_is folder name part e =
    let slash = after_slash (behind folder name) part e in
    (some_is folder name (47 ∷ part) slash.0, slash.1)

-- the part that a call tells is the one that is found
pub told_part : (folder name : List ℕ) (told : Option (List ℕ)) → IsPartIn folder name told → the_part folder name ≡ told
told_part folder name (Some part) is = ap (the_part folder) is.0 ∙ found_part folder part is.1
told_part folder name None is =
    elim (the_part folder name) as (λ t. the_part folder name ≡ t → t ≡ None) [
      | Some part ↦ λ e. let found = part_is folder name part e in absurd (is part found.1 found.0)
      | None ↦ λ e. refl
    ] refl

-- ---- gathering

pub gathers : (folder : List ℕ) (name : String Global) (rest : List (String Global)) (names all : List (List ℕ)) (part : List ℕ) → IsPartIn folder (string_bytes name) (Some part)
    → names ++ parts_in folder (name ∷ rest) ≡ all → (names ++ part ∷ []) ++ parts_in folder rest ≡ all
gathers folder name rest names all part is e =
    append_assoc names (part ∷ []) (parts_in folder rest) ∙ ap (λ t. names ++ with_part t (parts_in folder rest)) (sym (told_part folder (string_bytes name) (Some part) is)) ∙ e

pub passes : (folder : List ℕ) (name : String Global) (rest : List (String Global)) (names all : List (List ℕ)) → IsPartIn folder (string_bytes name) None
    → names ++ parts_in folder (name ∷ rest) ≡ all → names ++ parts_in folder rest ≡ all
passes folder name rest names all is e = ap (λ t. names ++ with_part t (parts_in folder rest)) (sym (told_part folder (string_bytes name) None is)) ∙ e

-- ---- each part stands there

abbrev is_name : List ℕ → String Global → Bool
is_name name key = is_eq (slice_cmp nat_cmp name (string_bytes key))

same_number : (a : ℕ) → nat_cmp a a ≡ Equal
same_number a = grind (arith, nat_tests)

same_text : (name : List ℕ) → slice_cmp nat_cmp name name ≡ Equal
same_text [] = refl
same_text (a ∷ name) = ap (λ o. ordering_then o (slice_cmp nat_cmp name name)) (same_number a) ∙ same_text name

still_there : (here : Bool) (node : Node) (rest : Option Node) → IsThere rest → IsThere (cond here (Some node) rest)
still_there true node rest h = tt
still_there false node rest h = h

all_map : {X : Type 0} {P Q : X → Type 0} (xs : List X) → ((x : X) → P x → Q x) → AllByRecursion P xs → AllByRecursion Q xs
all_map [] f h = tt
all_map (x ∷ xs) f h = (f x h.0, all_map xs f h.1)

each_there : (es : List (String Global × Node)) → AllByRecursion (λ k. IsThere (lookup (is_name (string_bytes k)) es)) (keys_of es)
each_there [] = tt
each_there (e ∷ es) = (
  subst (λ o. IsThere (cond (is_eq o) (Some e.1) (lookup (is_name (string_bytes e.0)) es))) (sym (same_text (string_bytes e.0))) tt,
  all_map (keys_of es) (λ k h. still_there (is_name (string_bytes k) e.0) e.1 (lookup (is_name (string_bytes k)) es) h) (each_there es),
)

all_stand : (nodes : Nodes) (folder : List ℕ) (ks : List (String Global)) → AllByRecursion (λ k. IsThere (nodes (string_bytes k))) ks → AllStand nodes folder (parts_in folder ks)
all_stand nodes folder [] h = tt
all_stand nodes folder (k ∷ ks) h =
    elim (the_part folder (string_bytes k)) as (λ t. the_part folder (string_bytes k) ≡ t → AllStand nodes folder (with_part t (parts_in folder ks))) [
      | Some part ↦ λ e. let found = part_is folder (string_bytes k) part e in ((found.1, subst (λ n. IsThere (nodes n)) found.0 h.0), all_stand nodes folder ks h.1)
      | None ↦ λ e. all_stand nodes folder ks h.1
    ] refl

-- ---- each that stands there is told

told_too : (this : Option (List ℕ)) (parts : List (List ℕ)) (part : List ℕ) → Contains parts part → Contains (with_part this parts) part
told_too None parts part h = h
told_too (Some p) parts part h = Contains-append_right (p ∷ []) parts part h

all_told : (folder part : List ℕ) → is_part part ≡ true → (es : List (String Global × Node)) → IsThere (lookup (is_name (inside folder part)) es)
    → Contains (parts_in folder (keys_of es)) part
all_told folder part is [] h = absurd h
all_told folder part is (e ∷ es) h =
    elim (is_name (inside folder part) e.0) as (λ t. is_name (inside folder part) e.0 ≡ t → IsThere (cond t (Some e.1) (lookup (is_name (inside folder part)) es)) → Contains (parts_in folder (keys_of (e ∷ es))) part) [
      | true ↦ λ t h.
          let same : inside folder part ≡ string_bytes e.0 = (bytes_decides (inside folder part) (string_bytes e.0)).0 (texts_ties (inside folder part) (string_bytes e.0) ∙ t) in
          subst (λ p. Contains (with_part p (parts_in folder (keys_of es))) part) (sym (ap (the_part folder) (sym same) ∙ found_part folder part is)) (0, zero-lt-suc (length (parts_in folder (keys_of es))), refl)
      | false ↦ λ t h. told_too (the_part folder (string_bytes e.0)) (parts_in folder (keys_of es)) part (all_told folder part is es h)
    ] refl h

-- ---- in their order

is_before : (xs ys : List ℕ) (o : Ordering) → o ≡ slice_cmp nat_cmp xs ys → is_lt o ≡ comes_before xs ys
is_before = same_from_slice_cmp nat_cmp is_lt comes_before refl (λ _ _. refl) (λ _ _. refl) (λ x y xs ys o h. grind (arith, nat_tests))

after_order : (front a b : List ℕ) → slice_cmp nat_cmp (front ++ a) (front ++ b) ≡ slice_cmp nat_cmp a b
after_order [] a b = refl
after_order (x ∷ front) a b = ap (λ o. ordering_then o (slice_cmp nat_cmp (front ++ a) (front ++ b))) (same_number x) ∙ after_order front a b

less_part : (folder p q : List ℕ) → slice_cmp nat_cmp (inside folder p) (inside folder q) ≡ Less → comes_before p q ≡ true
less_part folder p q e = sym (is_before p q (slice_cmp nat_cmp p q) refl) ∙ ap is_lt (sym (after_order folder (47 ∷ p) (47 ∷ q)) ∙ e)

all_later : (folder name p : List ℕ) → name ≡ inside folder p → (ks : List (String Global)) → AllByRecursion (λ k. slice_cmp nat_cmp name (string_bytes k) ≡ Less) ks
    → AllByRecursion (λ q. comes_before p q ≡ true) (parts_in folder ks)
all_later folder name p same [] h = tt
all_later folder name p same (k ∷ ks) h =
    elim (the_part folder (string_bytes k)) as (λ t. the_part folder (string_bytes k) ≡ t → AllByRecursion (λ q. comes_before p q ≡ true) (with_part t (parts_in folder ks))) [
      | Some q ↦ λ e.
          (less_part folder p q (ap₂ (λ a b. slice_cmp nat_cmp a b) (sym same) (sym (part_is folder (string_bytes k) q e).0) ∙ h.0), all_later folder name p same ks h.1)
      | None ↦ λ e. all_later folder name p same ks h.1
    ] refl

first_sorted : (p : List ℕ) (parts : List (List ℕ)) → AllByRecursion (λ q. comes_before p q ≡ true) parts → AreSorted parts → AreSorted (p ∷ parts)
first_sorted p [] a s = tt
first_sorted p (q ∷ qs) a s = (a.0, s)

sorted_parts : (folder : List ℕ) (ks : List (String Global)) → IsStrictlySortedBy string_cmp ks → AreSorted (parts_in folder ks)
sorted_parts folder [] s = tt
sorted_parts folder (k ∷ ks) s =
    let rest = sorted_parts folder ks (sorted_tail string_cmp k ks s) in
    elim (the_part folder (string_bytes k)) as (λ t. the_part folder (string_bytes k) ≡ t → AreSorted (with_part t (parts_in folder ks))) [
      | Some p ↦ λ e. first_sorted p (parts_in folder ks) (all_later folder (string_bytes k) p (part_is folder (string_bytes k) p e).0 ks (sorted_head string_cmp k ks s)) rest
      | None ↦ λ e. rest
    ] refl

-- the parts of all names of a tree are what stands in the folder, in order
pub lists_right : (m : NodeMap) (folder : List ℕ) → IsOrdered string_cmp m → ListsRight (λ name. get_by_text m name) folder (parts_in folder (keys m))
lists_right m folder ordered = record {
  each = all_stand (λ name. get_by_text m name) folder (keys m) (each_there m.entries);
  all = λ part s. all_told folder part s.0 m.entries s.1;
  sorted = sorted_parts folder (keys m) ordered;
}

-- ---- what can't be told

is_there : (x : Option Node) → IsSome x → IsThere x
is_there (Some node) h = tt
is_there None h = absurd (true≢false (sym h))

-- a name of the tree that is refused is one in the folder that can't be told
pub refused : (m : NodeMap) (folder : List ℕ) (name : String Global) (part : List ℕ) → IsPartIn folder (string_bytes name) (Some part) → IsSome (get string_cmp m name)
    → (why : Denied) → Explains ⊥ (is_usable part ≡ false) (Unit {0}) why → Explains ⊥ (CantList (λ n. get_by_text m n) folder) (Unit {0}) why
refused m folder name part is here ToFail h = h
refused m folder name part is here WrongKind h = inr (record { part = part; stands = (is.1, subst (λ n. IsThere (get_by_text m n)) is.0 (is_there (get string_cmp m name) here)); unusable = h })
refused m folder name part is here Memory h = tt
