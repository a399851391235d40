-- The variable of an entry by its cut, and those of all entries one after the other.
use Rattle.std.proofs.Common.{◌≡◌, ◌≤◌, ◌+◌, ℕ, Bool, true, false, ◌&&◌, ◌||◌, ◌==◌, List, [], ◌∷◌, ◌++◌, length, take, drop, zero, suc, refl, sym, ap, ◌∙◌, arith}
use Rattle.std.specs.Prelude.{Option, Some, None, IfSome, slice_get, option_to_list, if◌then◌else◌}
use Rattle.std.specs.List.{list_any, cons_option}
use Rattle.std.proofs.lemmas.List.{drop_more, drop_all, append_assoc, append-nil}
use Rattle.std.proofs.lemmas.Option.{slice_get_within, get_or_from_slice_get}
use Rattle.pm_bytes.specs.Name.{is_usable}
use Rattle.pm_bytes.specs.declared.environment.Pair.{Pair}
use Rattle.pm_start.specs.Entry.{Lacks}
use Rattle.pm_start.specs.Variables.{cut_at, with_first, usable_pair, pair_of, pairs_of, front_if}

same_byte : (n : ℕ) → (n == n) ≡ true
same_byte n = grind arith

neither : (a b : Bool) → (a || b) ≡ false → (a ≡ false) × (b ≡ false)
neither true b e = absurd (grind (arith, e))
neither false b e = (refl, e)

cut_none : (sign : ℕ) (bytes : List ℕ) → Lacks sign bytes → cut_at sign bytes ≡ None
cut_none sign [] lacks = refl
cut_none sign (byte ∷ more) lacks =
    let parts = neither (byte == sign) (list_any (λ b. b == sign) more) lacks in
    ap (λ t. if t then Some ([], more) else with_first byte (cut_at sign more)) parts.0 ∙ ap (with_first byte) (cut_none sign more parts.1)

cut_first : (sign : ℕ) (before after : List ℕ) → Lacks sign before → cut_at sign (before ++ sign ∷ after) ≡ Some (before, after)
cut_first sign [] after lacks = ap (λ t. if t then Some ([], after) else with_first sign (cut_at sign after)) (same_byte sign)
cut_first sign (byte ∷ more) after lacks =
    let parts = neither (byte == sign) (list_any (λ b. b == sign) more) lacks in
    ap (λ t. if t then Some ([], more ++ sign ∷ after) else with_first byte (cut_at sign (more ++ sign ∷ after))) parts.0
    ∙ ap (with_first byte) (cut_first sign more after parts.1)

-- an entry without an equals sign
pub no_pair : (entry : List ℕ) → Lacks 61 entry → None ≡ pair_of entry
no_pair entry lacks = sym (ap usable_pair (cut_none 61 entry lacks))

pair_by_cut : (entry name value : List ℕ) → entry ≡ name ++ 61 ∷ value → Lacks 61 name → pair_of entry ≡ usable_pair (Some (name, value))
pair_by_cut entry name value whole lacks = ap pair_of whole ∙ ap usable_pair (cut_first 61 name value lacks)

-- one whose name, or whose value, can't be a name
pub bad_name : (entry name value : List ℕ) → entry ≡ name ++ 61 ∷ value → Lacks 61 name → is_usable name ≡ false → None ≡ pair_of entry
bad_name entry name value whole lacks bad =
    sym (pair_by_cut entry name value whole lacks ∙ ap (λ u. if u && is_usable value then Some (record { name = name; value = value }) else None) bad)

both_false : (a b : Bool) → b ≡ false → (a && b) ≡ false
both_false true b h = h
both_false false b h = refl

pub bad_value : (entry name value : List ℕ) → entry ≡ name ++ 61 ∷ value → Lacks 61 name → is_usable value ≡ false → None ≡ pair_of entry
bad_value entry name value whole lacks bad =
    sym (pair_by_cut entry name value whole lacks ∙ ap (λ u. if u then Some (record { name = name; value = value }) else None) (both_false (is_usable name) (is_usable value) bad))

-- one whose name and value each can be a name
pub good_pair : (entry name value : List ℕ) → entry ≡ name ++ 61 ∷ value → Lacks 61 name → is_usable name ≡ true → is_usable value ≡ true
    → Some (record { name = name; value = value }) ≡ pair_of entry
good_pair entry name value whole lacks first second =
    sym (pair_by_cut entry name value whole lacks
    ∙ ap (λ u. if u && is_usable value then Some (record { name = name; value = value }) else None) first
    ∙ ap (λ u. if u then Some (record { name = name; value = value }) else None) second)

-- the variables of the entries from this one on
pub next_entry : (entries : List (List ℕ)) (i : ℕ) (entry : List ℕ) → slice_get entries i ≡ Some entry → pairs_of (drop i entries) ≡ cons_option (pair_of entry) (pairs_of (drop (i + 1) entries))
next_entry entries i entry at =
    ap pairs_of (drop_more entries i [] (slice_get_within entries i entry at)
    ∙ ap (λ e. e ∷ drop (i + 1) entries) (get_or_from_slice_get entries i entry [] at))

past : (entries : List (List ℕ)) (i : ℕ) → slice_get entries i ≡ None → length entries ≤ i
past [] i at = omega arith
past (entry ∷ more) zero at = absurd (grind (arith, at))
past (entry ∷ more) (suc i) at = let ih = past more i at in omega (arith, ih)

pub no_entry : (entries : List (List ℕ)) (i : ℕ) → slice_get entries i ≡ None → pairs_of (drop i entries) ≡ []
no_entry entries i at = ap pairs_of (drop_all i entries (past entries i at))

-- the loop over all entries: what is read, with what is still to come, is what all entries are
pub none_read : (shown : Option (List (List ℕ))) (read : List Pair) → read ≡ [] → IfSome shown (λ entries. read ++ pairs_of (drop 0 entries) ≡ pairs_of entries)
none_read None read is = tt
none_read (Some entries) read is = ap (λ l. l ++ pairs_of (drop 0 entries)) is

joined_on : (read : List Pair) (found : Option Pair) (rest : List Pair) → (read ++ option_to_list found) ++ rest ≡ read ++ cons_option found rest
joined_on read None rest = ap (λ l. l ++ rest) (append-nil read)
joined_on read (Some pair) rest = append_assoc read (pair ∷ []) rest

pub one_read : (shown : Option (List (List ℕ))) (read now : List Pair) (i : ℕ) (found : Option ℕ) (length : ℕ) (room entry : List ℕ)
    → IfSome shown (λ entries. read ++ pairs_of (drop i entries) ≡ pairs_of entries) → IfSome shown (λ entries. slice_get entries i ≡ front_if found room)
    → found ≡ Some length → entry ≡ take length room → now ≡ read ++ option_to_list (pair_of entry)
    → IfSome shown (λ entries. now ++ pairs_of (drop (i + 1) entries) ≡ pairs_of entries)
one_read None read now i found length room entry sofar at some is grown = tt
one_read (Some entries) read now i found length room entry sofar at some is grown =
    let here : slice_get entries i ≡ Some entry = at ∙ ap (λ f. front_if f room) some ∙ ap (λ e. Some e) (sym is) in
    ap (λ l. l ++ pairs_of (drop (i + 1) entries)) grown
    ∙ joined_on read (pair_of entry) (pairs_of (drop (i + 1) entries))
    ∙ ap (λ l. read ++ l) (sym (next_entry entries i entry here)) ∙ sofar

pub all_read : (shown : Option (List (List ℕ))) (read now : List Pair) (i : ℕ) (found : Option ℕ) (room : List ℕ)
    → IfSome shown (λ entries. read ++ pairs_of (drop i entries) ≡ pairs_of entries) → IfSome shown (λ entries. slice_get entries i ≡ front_if found room)
    → found ≡ None → now ≡ read → IfSome shown (λ entries. now ≡ pairs_of entries)
all_read None read now i found room sofar at none is = tt
all_read (Some entries) read now i found room sofar at none is =
    is ∙ sym (append-nil read) ∙ ap (λ l. read ++ l) (sym (no_entry entries i (at ∙ ap (λ f. front_if f room) none))) ∙ sofar

-- an entry's variable, if it has one, becomes the last
pub pushed : (before now : List Pair) (pair : Pair) (found : Option Pair) → Some pair ≡ found → now ≡ before ++ pair ∷ [] → now ≡ before ++ option_to_list found
pushed before now pair found is grown = grown ∙ ap (λ f. before ++ option_to_list f) is

pub not_pushed : (before : List Pair) (found : Option Pair) → None ≡ found → before ≡ before ++ option_to_list found
not_pushed before found is = sym (append-nil before) ∙ ap (λ f. before ++ option_to_list f) is
