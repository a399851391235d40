-- The length of the words after more bytes.
use Rattle.std.proofs.Common.{◌≡◌, ◌≤◌, ◌+◌, ℕ, Bool, true, false, not, ◌&&◌, ◌||◌, cond, nat_eq, List, [], ◌∷◌, ◌++◌, refl, ap, sym, ◌∙◌, subst, length, map, arith, append-nil, append_assoc, is_some, Option, Some, None, count_by, flat_map, sum_by}
use Rattle.std.proofs.lemmas.Bool.{eqb-true, true≢false}
use Rattle.std.proofs.lemmas.List.{length-append}
use Rattle.std.proofs.lemmas.List.Sums.{sum_by-append, sum_by-cons}
use Rattle.pm_bytes.specs.Alphabet.{BACKSLASH, SPACE, TAB, NEWLINE}
use Rattle.pm_bytes.specs.Letter.{is_space_byte}
use Rattle.pm_subst.specs.Bytes.{is_operator}
use Rattle.pm_subst.specs.Fields.{Fields, Element, Byte, Blank, size, bytes_of, with_byte, with_element, begun, ended, gathered}
use Rattle.pm_subst.specs.Values.{value_element, value_elements, escaped_operator}

-- 1 where a byte more begins a word that counts
abbrev pub starts : Bool → Bool → ℕ
starts splits begun = cond (splits && not begun) 1 0

-- where words are split, what a byte of a value adds
abbrev pub growth_of : Bool → Bool → ℕ
growth_of begun space = cond (not space) (1 + cond begun 0 1) 0

size-byte-of : (splits : Bool) (done : List (List ℕ)) (current : Option (List ℕ)) (byte : ℕ)
    → size splits (with_byte (record { done = done; current = current }) byte)
    ≡ size splits (record { done = done; current = current }) + 1 + starts splits (is_some current)
size-byte-of true done None byte = omega arith
size-byte-of true done (Some word) byte = omega (arith, length-append word (byte ∷ []))
size-byte-of false done None byte = omega arith
size-byte-of false done (Some word) byte = omega (arith, length-append word (byte ∷ []))

pub size-byte : (splits : Bool) (fields : Fields) (byte : ℕ)
    → size splits (with_byte fields byte) ≡ size splits fields + 1 + starts splits (is_some fields.current)
size-byte splits fields byte = size-byte-of splits fields.done fields.current byte

size-ended-of : (done : List (List ℕ)) (current : Option (List ℕ))
    → size true (ended (record { done = done; current = current })) ≡ size true (record { done = done; current = current })
size-ended-of done None = omega (arith, ap (sum_by length) (append-nil done), ap length (append-nil done))
size-ended-of done (Some word) = omega (arith, sum_by-append length done (word ∷ []), length-append done (word ∷ []))

-- a blank that ends a word adds nothing
pub size-ended : (fields : Fields) → size true (ended fields) ≡ size true fields
size-ended fields = size-ended-of fields.done fields.current

-- where words are split, by a byte of a value that isn't a blank, and by a word that it begins
pub size-split : (fields : Fields) (byte : ℕ) → size true (with_element true fields (value_element false byte))
    ≡ size true fields + growth_of (is_some fields.current) (is_space_byte byte)
size-split fields byte = at (is_space_byte byte)
  where
    begins-word : (begun : Bool) → 1 + starts true begun ≡ growth_of begun false
    begins-word true = refl
    begins-word false = refl

    at : (space : Bool) → size true (with_element true fields (cond space (Blank byte) (Byte byte)))
        ≡ size true fields + growth_of (is_some fields.current) space
    at true = omega (arith, size-ended fields)
    at false = omega (arith, size-byte true fields byte, begins-word (is_some fields.current))

pub begun-split : (fields : Fields) (byte : ℕ)
    → is_some (with_element true fields (value_element false byte)).current ≡ not (is_space_byte byte)
begun-split fields byte = at (is_space_byte byte)
  where
    at : (space : Bool) → is_some (with_element true fields (cond space (Blank byte) (Byte byte))).current ≡ not space
    at true = refl
    at false = refl

-- bytes, one after the other, are added at the word's end
pub gathered-bytes : (splits : Bool) (fields : Fields) (byte : ℕ) (bytes : List ℕ)
    → gathered splits fields (map Byte (byte ∷ bytes))
    ≡ record { done = fields.done; current = Some (bytes_of fields.current ++ byte ∷ bytes) }
gathered-bytes splits fields byte [] = refl
gathered-bytes splits fields byte (next ∷ bytes) =
    gathered-bytes splits (with_byte fields byte) next bytes
    ∙ ap (λ word. record { done = fields.done; current = Some word }) (append_assoc (bytes_of fields.current) (byte ∷ []) (next ∷ bytes))

whole-element : (quoted splits : Bool) (fields : Fields) (byte : ℕ) → (quoted || not splits) ≡ true
    → with_element splits fields (value_element quoted byte) ≡ with_byte fields byte
whole-element true splits fields byte h = refl
whole-element false false fields byte h = by (is_space_byte byte)
  where
    by : (space : Bool) → with_element false fields (cond space (Blank byte) (Byte byte)) ≡ with_byte fields byte
    by true = refl
    by false = refl
whole-element false true fields byte h = cc

-- in quotes, and where words aren't split, a value's bytes are taken alike
pub gathered_whole : (quoted splits : Bool) (fields : Fields) (bytes : List ℕ) → (quoted || not splits) ≡ true
    → gathered splits fields (value_elements quoted bytes) ≡ gathered splits fields (map Byte bytes)
gathered_whole quoted splits fields [] h = refl
gathered_whole quoted splits fields (byte ∷ bytes) h =
    ap (λ f. gathered splits f (value_elements quoted bytes)) (whole-element quoted splits fields byte h)
    ∙ gathered_whole quoted splits (with_byte fields byte) bytes h

-- these words are so much longer than those, and both have begun or neither
pub record Longer (splits : Bool) (by : ℕ) (short long : Fields) : Type 0 where
  pub size_is : size splits long ≡ size splits short + by
  pub begun_is : is_some long.current ≡ is_some short.current

longer-by : {splits : Bool} {by more : ℕ} {short long : Fields} → by ≡ more → Longer splits by short long → Longer splits more short long
longer-by e h = rw (← e) h

longer-byte : (splits : Bool) (by : ℕ) (short long : Fields) (byte : ℕ) → Longer splits by short long
    → Longer splits by (with_byte short byte) (with_byte long byte)
longer-byte splits by short long byte h = record {
  size_is = omega (
    arith,
    size-byte splits short byte,
    size-byte splits long byte,
    h.size_is,
    ap (starts splits) h.begun_is,
  );
  begun_is = refl;
}

longer-value : (quoted splits : Bool) (by : ℕ) (short long : Fields) (byte : ℕ) → Longer splits by short long
    → Longer splits by (with_element splits short (value_element quoted byte)) (with_element splits long (value_element quoted byte))
longer-value quoted splits by short long byte h = at (not quoted && is_space_byte byte) splits h
  where
    at : (blank splits : Bool) → Longer splits by short long
        → Longer splits by (with_element splits short (cond blank (Blank byte) (Byte byte))) (with_element splits long (cond blank (Blank byte) (Byte byte)))
    at true true h = record { size_is = omega (arith, size-ended short, size-ended long, h.size_is); begun_is = refl }
    at true false h = longer-byte false by short long byte h
    at false splits h = longer-byte splits by short long byte h

starts-never : (splits : Bool) → starts splits true ≡ 0
starts-never true = refl
starts-never false = refl

longer-behind : (quoted splits : Bool) (by : ℕ) (short long : Fields) (byte : ℕ) → is_space_byte byte ≡ false → Longer splits by short long
    → Longer splits (by + 1) (with_element splits short (value_element quoted byte))
    (with_element splits (with_byte long BACKSLASH) (value_element quoted byte))
longer-behind quoted splits by short long byte other h = at (not quoted && is_space_byte byte) (blank-never quoted (is_space_byte byte) other)
  where
    blank-never : (quoted space : Bool) → space ≡ false → (not quoted && space) ≡ false
    blank-never true space e = refl
    blank-never false space e = e

    at : (blank : Bool) → blank ≡ false
        → Longer splits (by + 1) (with_element splits short (cond blank (Blank byte) (Byte byte)))
        (with_element splits (with_byte long BACKSLASH) (cond blank (Blank byte) (Byte byte)))
    at true e = cc
    at false e = record {
      size_is = omega (
        arith,
        size-byte splits short byte,
        size-byte splits long BACKSLASH,
        size-byte splits (with_byte long BACKSLASH) byte,
        h.size_is,
        starts-never splits,
        ap (starts splits) h.begun_is,
      );
      begun_is = refl;
    }

-- a blank or a newline is no operator
no-operator : (byte : ℕ) → is_space_byte byte ≡ true → is_operator byte ≡ false
no-operator byte h =
    at (nat_eq byte SPACE) (nat_eq byte TAB) (nat_eq byte NEWLINE) (eqb-true byte SPACE) (eqb-true byte TAB) (eqb-true byte NEWLINE) h
  where
    at : (space tab newline : Bool) → (space ≡ true → byte ≡ SPACE) → (tab ≡ true → byte ≡ TAB) → (newline ≡ true → byte ≡ NEWLINE)
        → ((space || tab) || newline) ≡ true → is_operator byte ≡ false
    at true tab newline s t n h = ap is_operator (s refl)
    at false true newline s t n h = ap is_operator (t refl)
    at false false newline s t n h = ap is_operator (n h)

operator-no-space : (byte : ℕ) → is_operator byte ≡ true → is_space_byte byte ≡ false
operator-no-space byte h = at (is_space_byte byte) (no-operator byte)
  where
    at : (space : Bool) → (space ≡ true → is_operator byte ≡ false) → space ≡ false
    at true other = absurd (true≢false (sym h ∙ other refl))
    at false other = refl

backslash-element : (quoted : Bool) → value_element quoted BACKSLASH ≡ Byte BACKSLASH
backslash-element true = refl
backslash-element false = refl

longer-operator : (quoted splits : Bool) (by : ℕ) (short long : Fields) (byte : ℕ) → is_space_byte byte ≡ false → Longer splits by short long
    → Longer splits (by + 1) (with_element splits short (value_element quoted byte))
    (with_element splits (with_element splits long (value_element quoted BACKSLASH)) (value_element quoted byte))
longer-operator quoted splits by short long byte other h =
    let P : Element → Type 0 = λ e. Longer splits (by + 1) (with_element splits short (value_element quoted byte))
    (with_element splits (with_element splits long e) (value_element quoted byte)) in
    subst P (sym (backslash-element quoted)) (longer-behind quoted splits by short long byte other h)

-- each operator of a value makes the words longer by its backslash
pub longer-escaped : (quoted splits : Bool) (bytes : List ℕ) (by : ℕ) (short long : Fields) → Longer splits by short long
    → Longer splits (by + count_by is_operator bytes) (gathered splits short (value_elements quoted bytes))
    (gathered splits long (value_elements quoted (flat_map escaped_operator bytes)))
longer-escaped quoted splits [] by short long h = longer-by (omega arith) h
longer-escaped quoted splits (byte ∷ bytes) by short long h =
    longer-by (ap (λ n. by + n) (sym (sum_by-cons (λ x. cond (is_operator x) 1 0) byte bytes)))
    (at (is_operator byte) (operator-no-space byte) (longer-escaped quoted splits bytes))
  where
    at : (operator : Bool) → (operator ≡ true → is_space_byte byte ≡ false)
        → ((by : ℕ) (short long : Fields) → Longer splits by short long
        → Longer splits (by + count_by is_operator bytes) (gathered splits short (value_elements quoted bytes))
        (gathered splits long (value_elements quoted (flat_map escaped_operator bytes))))
        → Longer splits (by + (cond operator 1 0 + count_by is_operator bytes))
        (gathered splits (with_element splits short (value_element quoted byte)) (value_elements quoted bytes))
        (gathered splits long (value_elements quoted (cond operator (BACKSLASH ∷ byte ∷ []) (byte ∷ []) ++ flat_map escaped_operator bytes)))
    at true other rest = longer-by (omega arith) (rest (by + 1) _ _ (longer-operator quoted splits by short long byte (other refl) h))
    at false other rest = longer-by (omega arith) (rest by _ _ (longer-value quoted splits by short long byte h))

size-grows-value : (quoted splits : Bool) (fields : Fields) (byte : ℕ)
    → size splits fields ≤ size splits (with_element splits fields (value_element quoted byte))
size-grows-value quoted splits fields byte = at (not quoted && is_space_byte byte) splits
  where
    at : (blank splits : Bool) → size splits fields ≤ size splits (with_element splits fields (cond blank (Blank byte) (Byte byte)))
    at true true = omega (arith, size-ended fields)
    at true false = omega (arith, size-byte false fields byte)
    at false splits = omega (arith, size-byte splits fields byte)

-- a value never makes the words shorter
pub size-grows : (quoted splits : Bool) (fields : Fields) (bytes : List ℕ)
    → size splits fields ≤ size splits (gathered splits fields (value_elements quoted bytes))
size-grows quoted splits fields [] = omega arith
size-grows quoted splits fields (byte ∷ bytes) =
    omega (
      arith,
      size-grows-value quoted splits fields byte,
      size-grows quoted splits (with_element splits fields (value_element quoted byte)) bytes,
    )
