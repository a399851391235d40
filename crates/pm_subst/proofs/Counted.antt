-- The buffer holds the longer words where it has their length.
use Rattle.std.proofs.Common.{◌≡◌, ◌<◌, ◌≤◌, ◌+◌, ◌-◌, ◌^◌, ℕ, Bool, true, false, List, [], ◌∷◌, ◌++◌, not, refl, ap, sym, ◌∙◌, subst, length, map, min, arith, is_some, Some, count_by, flat_map, take, get_or}
use Rattle.std.proofs.lemmas.List.{length-append, take_all}
use Rattle.pm_bytes.specs.Letter.{is_space_byte}
use Rattle.pm_subst.specs.declared.buffer.Buffer.{Buffer}
use Rattle.pm_subst.specs.Buffer.{Holds}
use Rattle.pm_subst.specs.Bytes.{is_operator}
use Rattle.pm_subst.specs.Fields.{Fields, Byte, size, most_length, bytes_of, begun, gathered}
use Rattle.pm_subst.specs.Values.{value_element, value_elements, escaped_operator}
use Rattle.pm_subst.proofs.Length.{gathered-bytes, longer-escaped, Longer, size-split, begun-split, size-grows, growth_of}
use Rattle.pm_subst.proofs.Gather.{gathered-more}

-- words that are too long are held by their length alone
pub holds-too_long : (buffer : Buffer) (fields : Fields) → most_length < size buffer.splits fields
    → buffer.length ≡ min (size buffer.splits fields) (2 ^ 64 - 1) → buffer.begun ≡ is_some fields.current → Holds buffer fields
holds-too_long buffer fields over length_is begun_is = record {
  length_is = length_is;
  begun_is = begun_is;
  done_is = λ fits. absurd (omega arith);
  current_is = λ fits. absurd (omega arith);
}

-- bytes at the end of a word that has begun
holds-added : (old new : Buffer) (fields : Fields) (bytes : List ℕ) → Holds old (begun fields)
    → new.splits ≡ old.splits → new.begun ≡ old.begun → new.length ≡ min (old.length + length bytes) (2 ^ 64 - 1)
    → new.done.items ≡ old.done.items → (new.length ≤ most_length → new.current.items ≡ old.current.items ++ bytes)
    → Holds new (record { done = fields.done; current = Some (bytes_of fields.current ++ bytes) })
holds-added old new fields bytes h splits_is begun_is length_is done_is current_is =
    let longer : size new.splits (record { done = fields.done; current = Some (bytes_of fields.current ++ bytes) })
    ≡ size old.splits (begun fields) + length bytes = rw splits_is (omega (arith, length-append (bytes_of fields.current) bytes)) in
    record {
      length_is = omega (arith, longer, length_is, h.length_is);
      begun_is = begun_is ∙ h.begun_is;
      done_is = λ fits. done_is ∙ h.done_is (omega (arith, longer, fits));
      current_is = λ fits. current_is (omega (arith, length_is, h.length_is, longer, fits))
          ∙ ap (λ word. word ++ bytes) (h.current_is (omega (arith, longer, fits)));
    }

pub holds-text : (old new : Buffer) (fields : Fields) (bytes : List ℕ) → 0 < length bytes → Holds old (begun fields)
    → new.splits ≡ old.splits → new.begun ≡ old.begun → new.length ≡ min (old.length + length bytes) (2 ^ 64 - 1)
    → new.done.items ≡ old.done.items → (new.length ≤ most_length → new.current.items ≡ old.current.items ++ bytes)
    → (splits : Bool) → Holds new (gathered splits fields (map Byte bytes))
holds-text old new fields [] some h a b c d e splits = absurd (omega arith)
holds-text old new fields (byte ∷ bytes) some h a b c d e splits =
    rw (gathered-bytes splits fields byte bytes) (holds-added old new fields (byte ∷ bytes) h a b c d e)

-- a value with the backslashes of its operators
pub holds-escaped : (quoted : Bool) (bytes : List ℕ) (old now new : Buffer) (fields : Fields) → most_length < old.length
    → Holds old fields → Holds now (gathered old.splits fields (value_elements quoted bytes))
    → now.splits ≡ old.splits → new.splits ≡ now.splits → new.begun ≡ now.begun
    → new.length ≡ min (now.length + count_by is_operator bytes) (2 ^ 64 - 1)
    → Holds new (gathered old.splits fields (value_elements quoted (flat_map escaped_operator bytes)))
holds-escaped quoted bytes old now new fields over h held now_splits new_splits begun_is length_is =
    let start : Longer old.splits 0 fields fields = record { size_is = omega arith; begun_is = refl } in
    let longer = longer-escaped quoted old.splits bytes 0 fields fields start in
    let long : Fields = gathered old.splits fields (value_elements quoted (flat_map escaped_operator bytes)) in
    let splits : new.splits ≡ old.splits = new_splits ∙ now_splits in
    let short : Fields = gathered old.splits fields (value_elements quoted bytes) in
    let held_is : now.length ≡ min (size old.splits short) (2 ^ 64 - 1) =
    subst (λ s. now.length ≡ min (size s short) (2 ^ 64 - 1)) now_splits held.length_is in
    let over_now : most_length < size old.splits long =
    omega (arith, longer.size_is, size-grows quoted old.splits fields bytes, h.length_is, over) in
    let counted : new.length ≡ min (size old.splits long) (2 ^ 64 - 1) = omega (arith, length_is, held_is, longer.size_is) in
    holds-too_long new long (subst (λ s. most_length < size s long) (sym splits) over_now)
    (subst (λ s. new.length ≡ min (size s long) (2 ^ 64 - 1)) (sym splits) counted)
    (begun_is ∙ held.begun_is ∙ sym longer.begun_is)

-- a value that is split, of which all bytes were counted
pub holds-split : (old new : Buffer) (fields : Fields) (bytes : List ℕ) (i count : ℕ) → old.splits ≡ true → most_length < old.length
    → Holds old fields → length bytes ≤ i
    → size true (gathered true fields (value_elements false (take i bytes))) ≡ size true fields + count
    → is_some (gathered true fields (value_elements false (take i bytes))).current ≡ new.begun
    → new.splits ≡ old.splits → new.length ≡ min (old.length + count) (2 ^ 64 - 1)
    → Holds new (gathered old.splits fields (value_elements false bytes))
holds-split old new fields bytes i count splits over h all counted begun_is same length_is =
    let long : Fields = gathered true fields (value_elements false bytes) in
    let whole : take i bytes ≡ bytes = take_all i bytes all in
    let size_is : size true long ≡ size true fields + count =
    subst (λ xs. size true (gathered true fields (value_elements false xs)) ≡ size true fields + count) whole counted in
    let begun_now : is_some long.current ≡ new.begun =
    subst (λ xs. is_some (gathered true fields (value_elements false xs)).current ≡ new.begun) whole begun_is in
    let old_is : old.length ≡ min (size true fields) (2 ^ 64 - 1) =
    subst (λ s. old.length ≡ min (size s fields) (2 ^ 64 - 1)) splits h.length_is in
    let over_now : most_length < size true long = omega (arith, size_is, old_is, over) in
    let length_now : new.length ≡ min (size true long) (2 ^ 64 - 1) = omega (arith, size_is, old_is, length_is) in
    let now_splits : true ≡ new.splits = sym (same ∙ splits) in
    subst (λ s. Holds new (gathered s fields (value_elements false bytes))) (sym splits)
    (holds-too_long new long (subst (λ s. most_length < size s long) now_splits over_now)
    (subst (λ s. new.length ≡ min (size s long) (2 ^ 64 - 1)) now_splits length_now) (sym begun_now))

-- one byte more of a value that is split
pub counted-more : (fields : Fields) (bytes : List ℕ) (i count : ℕ) (begun : Bool) (more : ℕ) → i < length bytes
    → size true (gathered true fields (value_elements false (take i bytes))) ≡ size true fields + count
    → is_some (gathered true fields (value_elements false (take i bytes))).current ≡ begun
    → more ≡ growth_of begun (is_space_byte (get_or bytes i 0))
    → size true (gathered true fields (value_elements false (take (i + 1) bytes))) ≡ size true fields + (count + more)
counted-more fields bytes i count begun more h counted begun_is more_is =
    let byte : ℕ = get_or bytes i 0 in
    let before : Fields = gathered true fields (value_elements false (take i bytes)) in
    let next = ap (size true) (gathered-more true fields (value_element false) bytes i h) in
    let grown = size-split before byte in
    let same = ap (λ b. growth_of b (is_space_byte byte)) begun_is in
    omega (arith, next, grown, same, more_is, counted)

pub begun-more : (fields : Fields) (bytes : List ℕ) (i : ℕ) → i < length bytes
    → is_some (gathered true fields (value_elements false (take (i + 1) bytes))).current ≡ not (is_space_byte (get_or bytes i 0))
begun-more fields bytes i h =
    ap (λ f. is_some f.current) (gathered-more true fields (value_element false) bytes i h)
    ∙ begun-split (gathered true fields (value_elements false (take i bytes))) (get_or bytes i 0)
