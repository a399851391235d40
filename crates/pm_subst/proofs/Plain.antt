-- Plain texts, texts in single quotes, and blanks after them.
use Rattle.std.proofs.Common.{◌≡◌, ◌+◌, ◌-◌, ℕ, suc, zero, Bool, true, false, not, ◌&&◌, ◌||◌, cond, nat_eq, List, [], ◌∷◌, ◌++◌, refl, ap, sym, ◌∙◌, length, take, drop, map, min, arith, append-nil, append_assoc, Some, None}
use Rattle.std.specs.List.{list_all}
use Rattle.std.proofs.lemmas.Bool.{cond-true, cond-false, or_parts, and_parts}
use Rattle.std.proofs.lemmas.Bool.Decides.{nat_tests}
use Rattle.std.proofs.lemmas.List.{take_at, drop_at, drop-drop, length-append}
use Rattle.std.proofs.lemmas.List.Folds.{list_all-append}
use Rattle.pm_bytes.specs.Alphabet.{BACKSLASH, DOLLAR, BACKQUOTE, DOUBLE_QUOTE, SINGLE_QUOTE, HASH, CLOSE_BRACE}
use Rattle.pm_bytes.specs.Letter.{is_space_byte}
use Rattle.pm_vars.specs.Table.{Table}
use Rattle.pm_subst.specs.declared.kinds.Mode.{Mode}
use Rattle.pm_subst.specs.declared.kinds.Mode.TheVariants.{One, Quoted, Many}
use Rattle.pm_subst.specs.declared.kinds.Front.{Front}
use Rattle.pm_subst.specs.declared.kinds.Kind.TheVariants.{Space, Single as InSingle}
use Rattle.pm_subst.specs.Bytes.{quote_length}
use Rattle.pm_subst.specs.Front.{front_of, itself, piece}
use Rattle.pm_subst.specs.Tokens.{tokens, rule_of, token_of, frames_after, fresh_after, is_many}
use Rattle.pm_subst.specs.Fields.{Fields, Element, Byte, Blank, Quote, gathered, with_byte, begun, ended, all_words, words_of}
use Rattle.pm_subst.specs.Words.{elements, first_fields, words_in}
use Rattle.pm_subst.specs.Laws.{has_meaning, means_in_quotes, means_outside, is_plain, lacks, in_single, IsSimple, PlainStands, SingleStands, SinglesStay, BlanksPart, OneWord}
use Rattle.pm_subst.specs.Laws.IsSimple.{Plain, Single}
use Rattle.pm_subst.proofs.Gather.{tokens-drop}

cond-same : {A : Type 0} (b : Bool) (x : A) → cond b x x ≡ x
cond-same true x = refl
cond-same false x = refl

cond-never : {A : Type 0} (b : Bool) (x y : A) → cond (b && false) x y ≡ y
cond-never true x y = refl
cond-never false x y = refl

not-true : (b : Bool) → not b ≡ true → b ≡ false
not-true false e = refl
not-true true e = sym e

never : (b : Bool) → (b && false) ≡ false
never true = refl
never false = refl

no-comment : (b fresh : Bool) → (b && (fresh && false)) ≡ false
no-comment true true = refl
no-comment true false = refl
no-comment false fresh = refl

-- what the words become where this text is read after fields
abbrev with_text : Fields → List ℕ → Fields
with_text fields [] = fields
with_text fields (byte ∷ bytes) = with_text (with_byte fields byte) bytes

-- the rest of a text is gathered after fields
abbrev behind : Mode → Table → List (List ℕ) → Fields → Bool → List ℕ → Fields
behind mode table outputs fields fresh rest = gathered (is_many mode) fields (elements table outputs 0 (tokens mode 0 [] fresh rest))

-- one step at a front that takes one byte, and the next
abbrev turned : Mode → Table → List (List ℕ) → Fields → Bool → ℕ → List ℕ → Front → Fields
turned mode table outputs fields fresh byte rest front =
    gathered (is_many mode) fields (elements table outputs 0 (token_of front (rule_of mode [] fresh).quoted (byte ∷ rest)
    ∷ tokens mode (front.taken - 1) (frames_after front.kind (rule_of mode [] fresh).quoted []) (fresh_after front.kind fresh) rest))

-- a byte inside double quotes
quoted-front : (fresh : Bool) (byte : ℕ) (rest : List ℕ) → means_in_quotes byte ≡ false → front_of (rule_of Quoted [] fresh) (byte ∷ rest) ≡ itself
quoted-front fresh byte rest h =
    let a = or_parts (nat_eq byte BACKSLASH || nat_eq byte DOLLAR) (nat_eq byte BACKQUOTE) h in
    let b = or_parts (nat_eq byte BACKSLASH) (nat_eq byte DOLLAR) a.0 in
    cond-false (nat_eq byte BACKSLASH) _ _ b.0 ∙ cond-false (nat_eq byte DOLLAR) _ _ b.1
    ∙ ap (cond (nat_eq byte DOUBLE_QUOTE) itself) (cond-false (nat_eq byte BACKQUOTE) _ _ a.1 ∙ cond-never (nat_eq byte CLOSE_BRACE) _ _)
    ∙ cond-same (nat_eq byte DOUBLE_QUOTE) itself

-- a blank gives a blank, and another byte itself
abbrev blank_or_itself : ℕ → Front
blank_or_itself byte = cond (is_space_byte byte) (piece Space 0 1 1) itself

-- a byte outside quotes that means nothing there, where words aren't split and where they are
one-front : (fresh : Bool) (byte : ℕ) (rest : List ℕ) → means_outside byte ≡ false → front_of (rule_of One [] fresh) (byte ∷ rest) ≡ blank_or_itself byte
one-front fresh byte rest h =
    let a = or_parts (means_in_quotes byte || nat_eq byte DOUBLE_QUOTE) (nat_eq byte SINGLE_QUOTE) h in
    let b = or_parts (means_in_quotes byte) (nat_eq byte DOUBLE_QUOTE) a.0 in
    let c = or_parts (nat_eq byte BACKSLASH || nat_eq byte DOLLAR) (nat_eq byte BACKQUOTE) b.0 in
    let d = or_parts (nat_eq byte BACKSLASH) (nat_eq byte DOLLAR) c.0 in
    cond-false (nat_eq byte BACKSLASH) _ _ d.0 ∙ cond-false (nat_eq byte DOLLAR) _ _ d.1
    ∙ cond-false (nat_eq byte DOUBLE_QUOTE) _ _ b.1 ∙ cond-false (nat_eq byte BACKQUOTE) _ _ c.1 ∙ cond-never (nat_eq byte CLOSE_BRACE) _ _
    ∙ cond-false (nat_eq byte SINGLE_QUOTE) _ _ a.1 ∙ cond-false (nat_eq byte HASH && (fresh && false)) _ _ (no-comment (nat_eq byte HASH) fresh)

many-front : (fresh : Bool) (byte : ℕ) (rest : List ℕ) → means_outside byte ≡ false → (nat_eq byte HASH && (fresh && true)) ≡ false
    → front_of (rule_of Many [] fresh) (byte ∷ rest) ≡ blank_or_itself byte
many-front fresh byte rest h comment =
    let a = or_parts (means_in_quotes byte || nat_eq byte DOUBLE_QUOTE) (nat_eq byte SINGLE_QUOTE) h in
    let b = or_parts (means_in_quotes byte) (nat_eq byte DOUBLE_QUOTE) a.0 in
    let c = or_parts (nat_eq byte BACKSLASH || nat_eq byte DOLLAR) (nat_eq byte BACKQUOTE) b.0 in
    let d = or_parts (nat_eq byte BACKSLASH) (nat_eq byte DOLLAR) c.0 in
    cond-false (nat_eq byte BACKSLASH) _ _ d.0 ∙ cond-false (nat_eq byte DOLLAR) _ _ d.1
    ∙ cond-false (nat_eq byte DOUBLE_QUOTE) _ _ b.1 ∙ cond-false (nat_eq byte BACKQUOTE) _ _ c.1 ∙ cond-never (nat_eq byte CLOSE_BRACE) _ _
    ∙ cond-false (nat_eq byte SINGLE_QUOTE) _ _ a.1 ∙ cond-false (nat_eq byte HASH && (fresh && true)) _ _ comment

-- one byte is read: the fields after it, and whether a word is fresh there
abbrev Reads : Mode → Table → List (List ℕ) → Fields → Bool → ℕ → List ℕ → Type 0
Reads mode table outputs fields fresh byte rest =
    (now : Bool) × (behind mode table outputs fields fresh (byte ∷ rest) ≡ behind mode table outputs (with_byte fields byte) now rest)

module _ (table : Table) (outputs : List (List ℕ)) where
  quoted-byte : (fields : Fields) (fresh : Bool) (byte : ℕ) (rest : List ℕ) → means_in_quotes byte ≡ false → Reads Quoted table outputs fields fresh byte rest
  quoted-byte fields fresh byte rest h =
      (false, ap (turned Quoted table outputs fields fresh byte rest) (quoted-front fresh byte rest h))

  one-byte : (fields : Fields) (fresh : Bool) (byte : ℕ) (rest : List ℕ) → means_outside byte ≡ false → Reads One table outputs fields fresh byte rest
  one-byte fields fresh byte rest h = by (is_space_byte byte) (ap (turned One table outputs fields fresh byte rest) (one-front fresh byte rest h))
    where
      by : (space : Bool)
          → behind One table outputs fields fresh (byte ∷ rest) ≡ turned One table outputs fields fresh byte rest (cond space (piece Space 0 1 1) itself)
          → Reads One table outputs fields fresh byte rest
      by true e = (true, e)
      by false e = (false, e)

  many-byte : (fields : Fields) (fresh : Bool) (byte : ℕ) (rest : List ℕ) → has_meaning Many byte ≡ false → (nat_eq byte HASH && (fresh && true)) ≡ false
      → behind Many table outputs fields fresh (byte ∷ rest) ≡ behind Many table outputs (with_byte fields byte) false rest
  many-byte fields fresh byte rest h comment =
      let a = or_parts (means_outside byte) (is_space_byte byte) h in
      ap (turned Many table outputs fields fresh byte rest) (many-front fresh byte rest a.0 comment ∙ cond-false (is_space_byte byte) _ _ a.1)

  -- a blank ends the word
  blank-byte : (fields : Fields) (fresh : Bool) (blank : ℕ) (rest : List ℕ) → is_space_byte blank ≡ true
      → behind Many table outputs fields fresh (blank ∷ rest) ≡ behind Many table outputs (ended fields) true rest
  blank-byte fields fresh blank rest h =
      let outside : means_outside blank ≡ false = grind (arith, nat_tests, h) in
      let hash : nat_eq blank HASH ≡ false = grind (arith, nat_tests, h) in
      ap (turned Many table outputs fields fresh blank rest)
      (many-front fresh blank rest outside (ap (λ b. b && (fresh && true)) hash) ∙ cond-true (is_space_byte blank) _ _ h)

  -- a plain text
  quoted-text : (fields : Fields) (fresh : Bool) (text : List ℕ) → list_all (λ byte. not (means_in_quotes byte)) text ≡ true
      → behind Quoted table outputs fields fresh text ≡ with_text fields text
  quoted-text fields fresh [] h = refl
  quoted-text fields fresh (byte ∷ bytes) h =
      let parts = and_parts (not (means_in_quotes byte)) _ h in
      let first = quoted-byte fields fresh byte bytes (not-true (means_in_quotes byte) parts.0) in
      first.1 ∙ quoted-text (with_byte fields byte) first.0 bytes parts.1

  one-text : (fields : Fields) (fresh : Bool) (text : List ℕ) → list_all (λ byte. not (means_outside byte)) text ≡ true
      → behind One table outputs fields fresh text ≡ with_text fields text
  one-text fields fresh [] h = refl
  one-text fields fresh (byte ∷ bytes) h =
      let parts = and_parts (not (means_outside byte)) _ h in
      let first = one-byte fields fresh byte bytes (not-true (means_outside byte) parts.0) in
      first.1 ∙ one-text (with_byte fields byte) first.0 bytes parts.1

  many-text : (fields : Fields) (text rest : List ℕ) → list_all (λ byte. not (has_meaning Many byte)) text ≡ true
      → behind Many table outputs fields false (text ++ rest) ≡ behind Many table outputs (with_text fields text) false rest
  many-text fields [] rest h = refl
  many-text fields (byte ∷ bytes) rest h =
      let parts = and_parts (not (has_meaning Many byte)) _ h in
      many-byte fields false byte (bytes ++ rest) (not-true (has_meaning Many byte) parts.0) (never (nat_eq byte HASH))
      ∙ many-text (with_byte fields byte) bytes rest parts.1

  -- the first text of all, with the blank or the end after it
  plain-first : (text rest : List ℕ) → is_plain Many text ≡ true
      → (fresh : Bool) × (behind Many table outputs (first_fields Many) true (text ++ rest) ≡ behind Many table outputs (with_text (first_fields Many) text) fresh rest)
  plain-first [] rest h = (true, refl)
  plain-first (byte ∷ bytes) rest h =
      let plain = and_parts (not (nat_eq byte HASH)) _ h in
      let parts = and_parts (not (has_meaning Many byte)) _ plain.1 in (
        false,
        many-byte (first_fields Many) true byte (bytes ++ rest) (not-true (has_meaning Many byte) parts.0)
            (ap (λ b. b && true) (not-true (nat_eq byte HASH) plain.0))
            ∙ many-text (with_byte (first_fields Many) byte) bytes rest parts.1,
      )

  -- bytes are gathered one after another
  bytes-gathered : (splits : Bool) (fields : Fields) (text : List ℕ) (es : List Element)
      → gathered splits fields (map Byte text ++ es) ≡ gathered splits (with_text fields text) es
  bytes-gathered splits fields [] es = refl
  bytes-gathered splits fields (byte ∷ bytes) es = bytes-gathered splits (with_byte fields byte) bytes es

  -- a text in single quotes
  quote-length : (text rest : List ℕ) → lacks SINGLE_QUOTE text ≡ true → quote_length (text ++ SINGLE_QUOTE ∷ rest) ≡ length text
  quote-length [] rest h = refl
  quote-length (byte ∷ bytes) rest h =
      let parts = and_parts (not (nat_eq byte SINGLE_QUOTE)) _ h in
      let more : quote_length (bytes ++ SINGLE_QUOTE ∷ rest) + 1 ≡ suc (length bytes) = omega (arith, quote-length bytes rest parts.1) in
      cond-false (nat_eq byte SINGLE_QUOTE) _ _ (not-true (nat_eq byte SINGLE_QUOTE) parts.0) ∙ more

  abbrev single_front : ℕ → ℕ → Front
  single_front past taken = piece InSingle 1 past taken

  front-single : (text rest : List ℕ) → lacks SINGLE_QUOTE text ≡ true
      → single_front (quote_length (text ++ SINGLE_QUOTE ∷ rest) + 1) (min (quote_length (text ++ SINGLE_QUOTE ∷ rest) + 2) (length (text ++ SINGLE_QUOTE ∷ rest) + 1))
      ≡ single_front (length text + 1) (length text + 2)
  front-single text rest h =
      let whole : length (text ++ SINGLE_QUOTE ∷ rest) ≡ length text + suc (length rest) = length-append text (SINGLE_QUOTE ∷ rest) in
      let taken : min (length text + 2) (length (text ++ SINGLE_QUOTE ∷ rest) + 1) ≡ length text + 2 = omega (arith, whole) in
      ap (λ n. single_front (n + 1) (min (n + 2) (length (text ++ SINGLE_QUOTE ∷ rest) + 1))) (quote-length text rest h)
      ∙ ap (single_front (length text + 1)) taken

  past-single : (text rest : List ℕ) → drop (length text + 2 - 1) (text ++ SINGLE_QUOTE ∷ rest) ≡ rest
  past-single text rest =
      let one : length text + 2 - 1 ≡ length text + 1 = omega arith in
      ap (λ n. drop n (text ++ SINGLE_QUOTE ∷ rest)) one ∙ sym (drop-drop 1 (length text) (text ++ SINGLE_QUOTE ∷ rest))
      ∙ ap (drop 1) (drop_at text (SINGLE_QUOTE ∷ rest) (length text) refl)

  single-turned : (mode : Mode) (fields : Fields) (fresh : Bool) (text rest : List ℕ)
      → turned mode table outputs fields fresh SINGLE_QUOTE (text ++ SINGLE_QUOTE ∷ rest) (single_front (length text + 1) (length text + 2))
      ≡ behind mode table outputs (with_text (begun fields) text) false rest
  single-turned mode fields fresh text rest =
      let past : length text + 1 - 1 ≡ length text = omega arith in
      ap (λ n. gathered (is_many mode) fields (Quote ∷ (map Byte (take n (text ++ SINGLE_QUOTE ∷ rest)) ++ elements table outputs 0 (tokens mode (length text + 2 - 1) [] false (text ++ SINGLE_QUOTE ∷ rest))))) past
      ∙ ap (λ inside. gathered (is_many mode) fields (Quote ∷ (map Byte inside ++ elements table outputs 0 (tokens mode (length text + 2 - 1) [] false (text ++ SINGLE_QUOTE ∷ rest))))) (take_at text (SINGLE_QUOTE ∷ rest) (length text) refl)
      ∙ bytes-gathered (is_many mode) (begun fields) text (elements table outputs 0 (tokens mode (length text + 2 - 1) [] false (text ++ SINGLE_QUOTE ∷ rest)))
      ∙ ap (λ ts. gathered (is_many mode) (with_text (begun fields) text) (elements table outputs 0 ts))
      (tokens-drop mode (length text + 2 - 1) [] false (text ++ SINGLE_QUOTE ∷ rest) ∙ ap (tokens mode zero [] false) (past-single text rest))

  one-single : (fields : Fields) (fresh : Bool) (text rest : List ℕ) → lacks SINGLE_QUOTE text ≡ true
      → behind One table outputs fields fresh (SINGLE_QUOTE ∷ (text ++ SINGLE_QUOTE ∷ rest)) ≡ behind One table outputs (with_text (begun fields) text) false rest
  one-single fields fresh text rest h =
      ap (turned One table outputs fields fresh SINGLE_QUOTE (text ++ SINGLE_QUOTE ∷ rest)) (front-single text rest h)
      ∙ single-turned One fields fresh text rest

  many-single : (fields : Fields) (fresh : Bool) (text rest : List ℕ) → lacks SINGLE_QUOTE text ≡ true
      → behind Many table outputs fields fresh (SINGLE_QUOTE ∷ (text ++ SINGLE_QUOTE ∷ rest)) ≡ behind Many table outputs (with_text (begun fields) text) false rest
  many-single fields fresh text rest h =
      ap (turned Many table outputs fields fresh SINGLE_QUOTE (text ++ SINGLE_QUOTE ∷ rest)) (front-single text rest h)
      ∙ single-turned Many fields fresh text rest

-- a word that has begun, with a text after it
with-text-some : (done : List (List ℕ)) (word text : List ℕ)
    → with_text (record { done = done; current = Some word }) text ≡ record { done = done; current = Some (word ++ text) }
with-text-some done word [] = ap (λ w. record { done = done; current = Some w }) (sym (append-nil word))
with-text-some done word (byte ∷ bytes) =
    with-text-some done (word ++ byte ∷ []) bytes ∙ ap (λ w. record { done = done; current = Some w }) (append_assoc word (byte ∷ []) bytes)

pub plain-stands : PlainStands
plain-stands Quoted table outputs text h = ap all_words (quoted-text table outputs (first_fields Quoted) true text h ∙ with-text-some [] [] text)
plain-stands One table outputs text h = ap all_words (one-text table outputs (first_fields One) true text h ∙ with-text-some [] [] text)
plain-stands Many table outputs [] h = refl
plain-stands Many table outputs (byte ∷ bytes) h =
    let first = plain-first table outputs (byte ∷ bytes) [] h in
    ap (λ text. all_words (behind Many table outputs (first_fields Many) true text)) (sym (append-nil (byte ∷ bytes)))
    ∙ ap all_words (first.1 ∙ with-text-some [] (byte ∷ []) bytes)

pub one-single-stands : SingleStands One
one-single-stands table outputs text h = ap all_words (one-single table outputs (first_fields One) true text [] h ∙ with-text-some [] [] text)

pub many-single-stands : SingleStands Many
many-single-stands table outputs text h = ap all_words (many-single table outputs (first_fields Many) true text [] h ∙ with-text-some [] [] text)

pub singles-stay : SinglesStay
singles-stay table outputs text h =
    plain-stands Quoted table outputs (in_single text)
    (list_all-append (λ byte. not (means_in_quotes byte)) text (SINGLE_QUOTE ∷ []) ∙ ap (λ b. b && true) h)

-- words before those of a text
abbrev prefixed : List (List ℕ) → Fields → Fields
prefixed words fields = record { done = words ++ fields.done; current = fields.current }

gathered-prefixed : (words : List (List ℕ)) (fields : Fields) (es : List Element) → gathered true (prefixed words fields) es ≡ prefixed words (gathered true fields es)
gathered-prefixed words fields [] = refl
gathered-prefixed words fields (Byte byte ∷ es) = gathered-prefixed words (with_byte fields byte) es
gathered-prefixed words fields (Blank byte ∷ es) =
    ap (λ done. gathered true (record { done = done; current = None }) es) (append_assoc words fields.done (words_of fields.current))
    ∙ gathered-prefixed words (ended fields) es
gathered-prefixed words fields (Quote ∷ es) = gathered-prefixed words (begun fields) es

words-prefixed : (words : List (List ℕ)) (es : List Element)
    → all_words (gathered true (record { done = words; current = None }) es) ≡ words ++ all_words (gathered true (first_fields Many) es)
words-prefixed words es =
    let end : Fields = gathered true (first_fields Many) es in
    ap (λ done. all_words (gathered true (record { done = done; current = None }) es)) (sym (append-nil words))
    ∙ ap all_words (gathered-prefixed words (first_fields Many) es)
    ∙ append_assoc words end.done (words_of end.current)

-- fields after a simple text, whatever follows it
module _ (table : Table) (outputs : List (List ℕ)) (first : List ℕ) where
  abbrev Stops : Fields → Type 0
  Stops fields = (rest : List ℕ) → (fresh : Bool)
      × (behind Many table outputs (first_fields Many) true (first ++ rest) ≡ behind Many table outputs fields fresh rest)

  parted : (fields : Fields) (blank : ℕ) (rest : List ℕ) → Stops fields → is_space_byte blank ≡ true
      → words_in Many table outputs (first ++ blank ∷ rest) ≡ words_in Many table outputs first ++ words_in Many table outputs rest
  parted fields blank rest stops h =
      let here = stops (blank ∷ rest) in
      let alone = stops [] in
      let words : words_in Many table outputs first ≡ all_words fields =
      ap (λ text. all_words (behind Many table outputs (first_fields Many) true text)) (sym (append-nil first)) ∙ ap all_words alone.1 in
      ap all_words (here.1 ∙ blank-byte table outputs fields here.0 blank rest h)
      ∙ words-prefixed (all_words fields) (elements table outputs 0 (tokens Many 0 [] true rest))
      ∙ ap (λ words. words ++ words_in Many table outputs rest) (sym words)

  simple-parted : (blank : ℕ) (rest : List ℕ) → IsSimple first → is_space_byte blank ≡ true
      → words_in Many table outputs (first ++ blank ∷ rest) ≡ words_in Many table outputs first ++ words_in Many table outputs rest
  simple-parted blank rest (Plain plain) h = parted (with_text (first_fields Many) first) blank rest (λ more. plain-first table outputs first more plain) h
  simple-parted blank rest (Single inside is lack) h =
      parted (with_text (begun (first_fields Many)) inside) blank rest
      (λ more. (
        false,
        ap (λ text. behind Many table outputs (first_fields Many) true (text ++ more)) is
            ∙ ap (λ text. behind Many table outputs (first_fields Many) true (SINGLE_QUOTE ∷ text)) (append_assoc inside (SINGLE_QUOTE ∷ []) more)
            ∙ many-single table outputs (first_fields Many) true inside more lack,
      ))
      h

pub blanks-part : BlanksPart
blanks-part table outputs first blank rest simple h = simple-parted table outputs first blank rest simple h

-- where words aren't split there is one
one-word : (word : List ℕ) (es : List Element)
    → (end : List ℕ) × (gathered false (record { done = []; current = Some word }) es ≡ record { done = []; current = Some end })
one-word word [] = (word, refl)
one-word word (Byte byte ∷ es) = one-word (word ++ byte ∷ []) es
one-word word (Blank byte ∷ es) = one-word (word ++ byte ∷ []) es
one-word word (Quote ∷ es) = one-word word es

pub one-one-word : OneWord One
one-one-word table outputs text = ap (λ fields. length (all_words fields)) (one-word [] (elements table outputs 0 (tokens One 0 [] true text))).1

pub quoted-one-word : OneWord Quoted
quoted-one-word table outputs text = ap (λ fields. length (all_words fields)) (one-word [] (elements table outputs 0 (tokens Quoted 0 [] true text))).1
