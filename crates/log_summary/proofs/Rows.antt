-- What the map's own words do, seen as rows.
use Rattle.std.proofs.Common.{◌≡◌, ℕ, Bool, true, false, cond, List, [], ◌∷◌, refl, ap, Option, Some, None, map}
use Rattle.std.specs.Str.{bytes_eq}
use Rattle.std.specs.Option.{option_map}
use Rattle.std.specs.Map.{lookup}
use Rattle.indexmap.specs.IndexMap.{insert_entry}
use Rattle.log_summary.specs.Tallies.{Row, with_one, grown}

module _ {K V : Type 0} (name_of : K → List ℕ) (count_of bytes_of : V → ℕ) where
  abbrev pub row_of : K × V → Row
  row_of e = record { name = name_of e.0; count = count_of e.1; bytes = bytes_of e.1 }

  -- a value that is the old one and one more makes a row that counts one more
  pub with_one-entries : (k : K) (v : V) (bytes : ℕ) (es : List (K × V))
      → count_of v ≡ grown 1 (option_map count_of (lookup (λ k2. bytes_eq (name_of k) (name_of k2)) es))
      → bytes_of v ≡ grown bytes (option_map bytes_of (lookup (λ k2. bytes_eq (name_of k) (name_of k2)) es))
      → map row_of (insert_entry (λ a b. bytes_eq (name_of a) (name_of b)) es k v) ≡ with_one (name_of k) bytes (map row_of es)
  with_one-entries k v bytes [] counts sizes = cc
  with_one-entries k v bytes (e ∷ es) counts sizes = by (bytes_eq (name_of k) (name_of e.0)) counts sizes (with_one-entries k v bytes es)
    where
      by : (b : Bool)
          → count_of v ≡ grown 1 (option_map count_of (cond b (Some e.1) (lookup (λ k2. bytes_eq (name_of k) (name_of k2)) es)))
          → bytes_of v ≡ grown bytes (option_map bytes_of (cond b (Some e.1) (lookup (λ k2. bytes_eq (name_of k) (name_of k2)) es)))
          → (count_of v ≡ grown 1 (option_map count_of (lookup (λ k2. bytes_eq (name_of k) (name_of k2)) es))
          → bytes_of v ≡ grown bytes (option_map bytes_of (lookup (λ k2. bytes_eq (name_of k) (name_of k2)) es))
          → map row_of (insert_entry (λ a b. bytes_eq (name_of a) (name_of b)) es k v) ≡ with_one (name_of k) bytes (map row_of es))
          → map row_of (cond b ((e.0, v) ∷ es) (e ∷ insert_entry (λ a b2. bytes_eq (name_of a) (name_of b2)) es k v))
          ≡ cond b (record { name = name_of e.0; count = grown 1 (Some (count_of e.1)); bytes = grown bytes (Some (bytes_of e.1)) } ∷ map row_of es)
          (row_of e ∷ with_one (name_of k) bytes (map row_of es))
      by true counts sizes rest = cc
      by false counts sizes rest = ap (λ r. row_of e ∷ r) (rest counts sizes)
