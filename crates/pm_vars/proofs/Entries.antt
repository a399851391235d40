-- What the map's own words do, seen as variables.
use Rattle.std.proofs.Common.{◌≡◌, ℕ, Bool, true, false, cond, List, [], ◌∷◌, ◌++◌, refl, ap, sym, subst, ◌∙◌, Option, Some, None, IsSome, IfSome, is_some, filter, filter_map, true≢false}
use Rattle.std.specs.Str.{bytes_eq}
use Rattle.std.specs.Option.{option_map, unwrap_or}
use Rattle.std.proofs.lemmas.Slice.Eq.{bytes_eq-Decides}
use Rattle.std.proofs.lemmas.Map.Keys.{IsDistinct-head, IsDistinct-tail}
use Rattle.indexmap.specs.IndexMap.{insert_entry, shift_remove_entry}
use Rattle.std.specs.Map.{lookup, keys_of, set_value}
use Rattle.std.specs.List.{cons_option, AllZip, AllByRecursion, IsDistinct}
use Rattle.std.proofs.lemmas.Slice.Zip.{AllZip-map}
use Rattle.std.proofs.lemmas.List.{map-id}
use Rattle.std.proofs.lemmas.List.Elements.{filter_map-append}
use Rattle.pm_vars.specs.Variables.{Variable, value_of, with_value, without}

some-same : {X : Type 0} {x y : X} → Some x ≡ Some y → x ≡ y
some-same {x = x} h = ap (λ o. unwrap_or o x) h

module _ {K V : Type 0} (name_of : K → List ℕ) (bytes_of : V → Option (List ℕ)) where
  -- the variable of a name and what there may be of a value
  abbrev pub made : List ℕ → Option (List ℕ) → Option Variable
  made name bytes = option_map (λ value. record { name = name; value = value }) bytes

  abbrev pub entry_of : K × V → Option Variable
  entry_of e = made (name_of e.0) (bytes_of e.1)

  abbrev pub seen : List (K × V) → List Variable
  seen es = filter_map entry_of es

  abbrev pub found : List ℕ → List (K × V) → Option V
  found name es = lookup (λ k. bytes_eq name (name_of k)) es

  -- no two entries have the same name
  abbrev pub AreApart : List (K × V) → Type 0
  AreApart es = IsDistinct (λ a b. bytes_eq (name_of a) (name_of b)) (keys_of es)

  pub value_of-absent : (name : List ℕ) (es : List (K × V)) → found name es ≡ None → value_of name (seen es) ≡ None
  value_of-absent name [] h = refl
  value_of-absent name (e ∷ es) h = by (value_of-absent name es) (bytes_eq name (name_of e.0)) (bytes_of e.1) refl h
    where
      by : (found name es ≡ None → value_of name (seen es) ≡ None) → (b : Bool) (o : Option (List ℕ)) → bytes_eq name (name_of e.0) ≡ b → cond b (Some e.1) (found name es) ≡ None
          → value_of name (cons_option (made (name_of e.0) o) (seen es)) ≡ None
      by next true o at h = absurd (true≢false (ap is_some h))
      by next false None at h = next h
      by next false (Some v) at h = ap (λ b. cond b (Some v) (value_of name (seen es))) at ∙ next h

  pub without-absent : (name : List ℕ) (es : List (K × V)) → found name es ≡ None → without name (seen es) ≡ seen es
  without-absent name [] h = refl
  without-absent name (e ∷ es) h = by (without-absent name es) (bytes_eq name (name_of e.0)) (bytes_of e.1) refl h
    where
      by : (found name es ≡ None → without name (seen es) ≡ seen es) → (b : Bool) (o : Option (List ℕ)) → bytes_eq name (name_of e.0) ≡ b → cond b (Some e.1) (found name es) ≡ None
          → without name (cons_option (made (name_of e.0) o) (seen es)) ≡ cons_option (made (name_of e.0) o) (seen es)
      by next true o at h = absurd (true≢false (ap is_some h))
      by next false None at h = next h
      by next false (Some v) at h = ap (λ b. cond b (seen es) (record { name = name_of e.0; value = v } ∷ without name (seen es))) at
          ∙ ap (λ r. record { name = name_of e.0; value = v } ∷ r) (next h)

  none-differs : (name : List ℕ) (es : List (K × V)) → AllByRecursion (λ k. bytes_eq name (name_of k) ≡ false) (keys_of es) → found name es ≡ None
  none-differs name [] h = refl
  none-differs name (e ∷ es) h = ap (λ b. cond b (Some e.1) (found name es)) h.0 ∙ none-differs name es h.1

  -- the name of the first entry is no other's
  none-behind : (name : List ℕ) (e : K × V) (es : List (K × V)) → AreApart (e ∷ es) → bytes_eq name (name_of e.0) ≡ true → found name es ≡ None
  none-behind name e es apart at =
      none-differs name es (subst (λ n. AllByRecursion (λ k. bytes_eq n (name_of k) ≡ false) (keys_of es)) (sym ((bytes_eq-Decides name (name_of e.0)).0 at)) (IsDistinct-head _ e.0 (keys_of es) apart))

  pub value_of-found : (name : List ℕ) (v : V) (es : List (K × V)) → AreApart es → found name es ≡ Some v → value_of name (seen es) ≡ bytes_of v
  value_of-found name v [] apart h = absurd (true≢false (sym (ap is_some h)))
  value_of-found name v (e ∷ es) apart h = by (value_of-found name v es (IsDistinct-tail _ e.0 (keys_of es) apart)) (bytes_eq name (name_of e.0)) (bytes_of e.1) refl refl h
    where
      by : (found name es ≡ Some v → value_of name (seen es) ≡ bytes_of v) → (b : Bool) (o : Option (List ℕ)) → bytes_eq name (name_of e.0) ≡ b → bytes_of e.1 ≡ o → cond b (Some e.1) (found name es) ≡ Some v
          → value_of name (cons_option (made (name_of e.0) o) (seen es)) ≡ bytes_of v
      by next true None at is h = value_of-absent name es (none-behind name e es apart at) ∙ sym is ∙ ap bytes_of (some-same h)
      by next true (Some x) at is h = ap (λ b. cond b (Some x) (value_of name (seen es))) at ∙ sym is ∙ ap bytes_of (some-same h)
      by next false None at is h = next h
      by next false (Some x) at is h = ap (λ b. cond b (Some x) (value_of name (seen es))) at ∙ next h

  pub with_value-entries : (k : K) (v : V) (value : List ℕ) (es : List (K × V)) → bytes_of v ≡ Some value → IfSome (found (name_of k) es) (λ x. IsSome (bytes_of x))
      → seen (insert_entry (λ a b. bytes_eq (name_of a) (name_of b)) es k v) ≡ with_value (name_of k) value (seen es)
  with_value-entries k v value [] is there = ap (λ o. cons_option (made (name_of k) o) []) is
  with_value-entries k v value (e ∷ es) is there = by (with_value-entries k v value es is) (bytes_eq (name_of k) (name_of e.0)) (bytes_of e.1) refl refl there
    where
      by : (IfSome (found (name_of k) es) (λ x. IsSome (bytes_of x)) → seen (insert_entry (λ a b. bytes_eq (name_of a) (name_of b)) es k v) ≡ with_value (name_of k) value (seen es)) → (b : Bool) (o : Option (List ℕ)) → bytes_eq (name_of k) (name_of e.0) ≡ b → bytes_of e.1 ≡ o → IfSome (cond b (Some e.1) (found (name_of k) es)) (λ x. IsSome (bytes_of x))
          → seen (cond b ((e.0, v) ∷ es) (e ∷ insert_entry (λ a b. bytes_eq (name_of a) (name_of b)) es k v)) ≡ with_value (name_of k) value (cons_option (made (name_of e.0) o) (seen es))
      by next true None at o there = absurd (true≢false (sym there ∙ ap is_some o))
      by next true (Some x) at o there = ap (λ o. cons_option (made (name_of e.0) o) (seen es)) is
          ∙ sym (ap (λ b. cond b (record { name = name_of e.0; value = value } ∷ seen es) (record { name = name_of e.0; value = x } ∷ with_value (name_of k) value (seen es))) at)
      by next false None at o there = ap (λ o. cons_option (made (name_of e.0) o) (seen (insert_entry (λ a b. bytes_eq (name_of a) (name_of b)) es k v))) o ∙ next there
      by next false (Some x) at o there = ap (λ o. cons_option (made (name_of e.0) o) (seen (insert_entry (λ a b. bytes_eq (name_of a) (name_of b)) es k v))) o
          ∙ ap (λ r. record { name = name_of e.0; value = x } ∷ r) (next there)
          ∙ sym (ap (λ b. cond b (record { name = name_of e.0; value = value } ∷ seen es) (record { name = name_of e.0; value = x } ∷ with_value (name_of k) value (seen es))) at)

  -- an entry without a value leaves no trace
  pub seen-removed : (name : List ℕ) (v : V) (es : List (K × V)) → found name es ≡ Some v → bytes_of v ≡ None
      → seen (shift_remove_entry (λ k. bytes_eq name (name_of k)) es) ≡ seen es
  seen-removed name v [] h gone = refl
  seen-removed name v (e ∷ es) h gone = by (λ h. seen-removed name v es h gone) (bytes_eq name (name_of e.0)) h
    where
      by : (found name es ≡ Some v → seen (shift_remove_entry (λ k. bytes_eq name (name_of k)) es) ≡ seen es) → (b : Bool) → cond b (Some e.1) (found name es) ≡ Some v → seen (cond b es (e ∷ shift_remove_entry (λ k. bytes_eq name (name_of k)) es)) ≡ seen (e ∷ es)
      by next true h = sym (ap (λ o. cons_option (made (name_of e.0) o) (seen es)) (ap bytes_of (some-same h) ∙ gone))
      by next false h = ap (λ r. cons_option (entry_of e) r) (next h)

  pub without-entries : (name : List ℕ) (w : V) (es : List (K × V)) → AreApart es → bytes_of w ≡ None
      → seen (set_value (λ k. bytes_eq name (name_of k)) es w) ≡ without name (seen es)
  without-entries name w [] apart gone = refl
  without-entries name w (e ∷ es) apart gone = by (without-entries name w es (IsDistinct-tail _ e.0 (keys_of es) apart) gone) (bytes_eq name (name_of e.0)) (bytes_of e.1) refl refl
    where
      by : (seen (set_value (λ k. bytes_eq name (name_of k)) es w) ≡ without name (seen es)) → (b : Bool) (o : Option (List ℕ)) → bytes_eq name (name_of e.0) ≡ b → bytes_of e.1 ≡ o
          → seen (cond b ((e.0, w) ∷ es) (e ∷ set_value (λ k. bytes_eq name (name_of k)) es w)) ≡ without name (cons_option (made (name_of e.0) o) (seen es))
      by next true None at o = ap (λ o. cons_option (made (name_of e.0) o) (seen es)) gone ∙ sym (without-absent name es (none-behind name e es apart at))
      by next true (Some x) at o = ap (λ o. cons_option (made (name_of e.0) o) (seen es)) gone
          ∙ sym (ap (λ b. cond b (seen es) (record { name = name_of e.0; value = x } ∷ without name (seen es))) at)
      by next false None at o = ap (λ o. cons_option (made (name_of e.0) o) (seen (set_value (λ k. bytes_eq name (name_of k)) es w))) o ∙ next
      by next false (Some x) at o = ap (λ o. cons_option (made (name_of e.0) o) (seen (set_value (λ k. bytes_eq name (name_of k)) es w))) o
          ∙ ap (λ r. record { name = name_of e.0; value = x } ∷ r) next
          ∙ sym (ap (λ b. cond b (seen es) (record { name = name_of e.0; value = x } ∷ without name (seen es))) at)

  pub seen-kept : (es : List (K × V)) → seen (filter (λ e. is_some (bytes_of e.1)) es) ≡ seen es
  seen-kept [] = refl
  seen-kept (e ∷ es) = by (seen-kept es) (bytes_of e.1) refl
    where
      by : (seen (filter (λ e. is_some (bytes_of e.1)) es) ≡ seen es) → (o : Option (List ℕ)) → bytes_of e.1 ≡ o → seen (cond (is_some o) (e ∷ filter (λ e. is_some (bytes_of e.1)) es) (filter (λ e. is_some (bytes_of e.1)) es)) ≡ cons_option (made (name_of e.0) o) (seen es)
      by next None o = next
      by next (Some x) o = ap (λ o. cons_option (made (name_of e.0) o) (seen (filter (λ e. is_some (bytes_of e.1)) es))) o ∙ ap (λ r. record { name = name_of e.0; value = x } ∷ r) next

  -- one entry more
  pub seen-more : (es : List (K × V)) (e : K × V) (o : Option (List ℕ)) → bytes_of e.1 ≡ o → seen (es ++ e ∷ []) ≡ seen es ++ cons_option (made (name_of e.0) o) []
  seen-more es e o is = filter_map-append entry_of es (e ∷ []) ∙ ap (λ o. seen es ++ cons_option (made (name_of e.0) o) []) is

  -- clones, place by place
  pub entries-clone : (C : K → K → Type 0) → ((x y : K) → C x y → name_of y ≡ name_of x) → (es fs : List (K × V))
      → AllZip (λ p q. C p.0 q.0 × (bytes_of q.1 ≡ bytes_of p.1)) es fs → seen fs ≡ seen es
  entries-clone C same [] [] h = refl
  entries-clone C same [] (y ∷ ys) h = absurd h
  entries-clone C same (x ∷ xs) [] h = absurd h
  entries-clone C same (x ∷ xs) (y ∷ ys) h =
      let name : name_of y.0 ≡ name_of x.0 = same x.0 y.0 h.0.0 in
      let value : bytes_of y.1 ≡ bytes_of x.1 = h.0.1 in
      let rest : seen ys ≡ seen xs = entries-clone C same xs ys h.1 in
      cc

-- a clone of a list of bytes is that list
pub bytes-clone : (xs ys : List ℕ) → AllZip (λ x y. y ≡ x) xs ys → ys ≡ xs
bytes-clone xs ys h = AllZip-map (λ x. x) xs ys h ∙ map-id xs
