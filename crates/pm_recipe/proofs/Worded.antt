-- Where no quote is left open, what a reader of words reads is a word.
use Rattle.std.proofs.Common.{◌≡◌, ◌+◌, ℕ, Bool, true, false, not, ◌&&◌, cond, nat_eq, List, [], ◌∷◌, ◌++◌, refl, ap, sym, ◌∙◌, length, take, drop, arith, subst, ◌⊎◌, inl, inr}
use Rattle.std.proofs.lemmas.List.{take_at, drop_at, length-append, append_assoc, take-append-drop}
use Rattle.pm_bytes.specs.Letter.{is_space_byte}
use Rattle.pm_recipe.specs.Bytes.{begins_with}
use Rattle.pm_bytes.specs.Alphabet.{HASH, SINGLE_QUOTE, DOUBLE_QUOTE, BACKQUOTE, BACKSLASH}
use Rattle.pm_recipe.specs.Places.{reach_of, rest_of, far}
use Rattle.pm_recipe.specs.declared.words.InWord.{InWord}
use Rattle.pm_recipe.specs.WordPlaces.{word_after, word_places, is_quote}
use Rattle.pm_recipe.specs.Colon.{word_length, is_unclosed}
use Rattle.pm_recipe.specs.Front.{ends_name}
use Rattle.pm_recipe.specs.Quotes.{Mark, Inner, Part, marks_text, inners_text, word_text, are_marks, are_inners, are_single, are_parts, IsWord, IsValue}
use Rattle.pm_recipe.specs.Quotes.IsValue.{Empty, Word}
use Rattle.pm_recipe.proofs.Forms.{equal}
use Rattle.pm_recipe.proofs.Quoted.{taken-on, plain-on, double-plain-on, word-on}

-- a text that a word begins
pub record Reads (text : List ℕ) : Type 0 where
  pub parts : List Part
  pub last : List ℕ
  pub behind : List ℕ
  pub text_is : text ≡ word_text parts (last ++ behind)
  pub good : are_parts parts ≡ true
  pub ends : ((last ≡ []) × (ends_name behind ≡ true)) ⊎ ((last ≡ BACKSLASH ∷ []) × (behind ≡ []))

-- a text that the rest of a quote and then a word begin
pub record InSingle (text : List ℕ) : Type 0 where
  pub bytes : List ℕ
  pub after : List ℕ
  pub text_is : text ≡ bytes ++ (SINGLE_QUOTE ∷ after)
  pub good : are_single bytes ≡ true
  pub reads : Reads after

pub record InDouble (text : List ℕ) : Type 0 where
  pub inners : List Inner
  pub after : List ℕ
  pub text_is : text ≡ inners_text inners after
  pub good : are_inners inners ≡ true
  pub reads : Reads after

pub record InCommand (text : List ℕ) : Type 0 where
  pub marks : List Mark
  pub after : List ℕ
  pub text_is : text ≡ marks_text marks after
  pub good : are_marks marks ≡ true
  pub reads : Reads after

pub record InInner (text : List ℕ) : Type 0 where
  pub marks : List Mark
  pub after : List ℕ
  pub text_is : text ≡ marks_text marks after
  pub good : are_marks marks ≡ true
  pub reads : InDouble after

-- where no quote is open at the end
abbrev pub Closed : InWord → List ℕ → Type 0
Closed place text = is_quote (rest_of word_places false place text) ≡ false

no-quote : {A : Type 0} → true ≡ false → A
no-quote h = absurd (grind arith)

both : (a b : Bool) → a ≡ true → b ≡ true → (a && b) ≡ true
both a b g h = ap (λ x. x && b) g ∙ h

not-false : (b : Bool) → b ≡ false → not b ≡ true
not-false b h = ap not h

end-word : (text : List ℕ) → ends_name text ≡ true → Reads text
end-word text h = record { parts = []; last = []; behind = text; text_is = refl; good = refl; ends = inl (refl, h) }

last-word : Reads (BACKSLASH ∷ [])
last-word = record { parts = []; last = BACKSLASH ∷ []; behind = []; text_is = refl; good = refl; ends = inr (refl, refl) }

with-taken : (byte : ℕ) (text : List ℕ) → Reads text → Reads (BACKSLASH ∷ (byte ∷ text))
with-taken byte text r = record {
  parts = Part.Taken byte ∷ r.parts;
  last = r.last;
  behind = r.behind;
  text_is = ap (λ xs. BACKSLASH ∷ (byte ∷ xs)) r.text_is;
  good = r.good;
  ends = r.ends;
}

with-single : (text : List ℕ) → InSingle text → Reads (SINGLE_QUOTE ∷ text)
with-single text q = record {
  parts = Part.Single q.bytes ∷ q.reads.parts;
  last = q.reads.last;
  behind = q.reads.behind;
  text_is = ap (λ xs. SINGLE_QUOTE ∷ xs) (q.text_is ∙ ap (λ xs. q.bytes ++ (SINGLE_QUOTE ∷ xs)) q.reads.text_is);
  good = both _ _ q.good q.reads.good;
  ends = q.reads.ends;
}

with-double : (text : List ℕ) → InDouble text → Reads (DOUBLE_QUOTE ∷ text)
with-double text q = record {
  parts = Part.Double q.inners ∷ q.reads.parts;
  last = q.reads.last;
  behind = q.reads.behind;
  text_is = ap (λ xs. DOUBLE_QUOTE ∷ xs) (q.text_is ∙ ap (λ xs. inners_text q.inners xs) q.reads.text_is);
  good = both _ _ q.good q.reads.good;
  ends = q.reads.ends;
}

with-command : (text : List ℕ) → InCommand text → Reads (BACKQUOTE ∷ text)
with-command text q = record {
  parts = Part.Command q.marks ∷ q.reads.parts;
  last = q.reads.last;
  behind = q.reads.behind;
  text_is = ap (λ xs. BACKQUOTE ∷ xs) (q.text_is ∙ ap (λ xs. marks_text q.marks xs) q.reads.text_is);
  good = both _ _ q.good q.reads.good;
  ends = q.reads.ends;
}

-- at a byte that begins no quote
plain-word : (byte : ℕ) (text : List ℕ) → nat_eq byte BACKSLASH ≡ false → nat_eq byte SINGLE_QUOTE ≡ false → nat_eq byte DOUBLE_QUOTE ≡ false → nat_eq byte BACKQUOTE ≡ false
    → (Closed InWord.Plain text → Reads text) → Closed InWord.Plain (byte ∷ text) → Reads (byte ∷ text)
plain-word byte text backslash single double backquote more closed = by (is_space_byte byte) refl
  where
    by : (b : Bool) → is_space_byte byte ≡ b → Reads (byte ∷ text)
    by true h = end-word (byte ∷ text) h
    by false h =
        let r = more (sym (ap is_quote (plain-on byte text h backslash single double backquote).place_is) ∙ closed) in
        record {
          parts = Part.Plain byte ∷ r.parts;
          last = r.last;
          behind = r.behind;
          text_is = ap (λ xs. byte ∷ xs) r.text_is;
          good = both _ _ (both _ _ (both _ _ (both _ _ (both _ _ (not-false _ h) (not-false _ backslash)) (not-false _ single)) (not-false _ double)) (not-false _ backquote)) r.good;
          ends = r.ends;
        }

-- a word at its first byte
word-step : (byte : ℕ) (text : List ℕ) → (Closed InWord.Plain text → Reads text) → (Closed InWord.Single text → InSingle text)
    → (Closed InWord.Double text → InDouble text) → (Closed InWord.Backquote text → InCommand text)
    → (Closed InWord.Plain (BACKSLASH ∷ text) → Reads (BACKSLASH ∷ text)) → Closed InWord.Plain (byte ∷ text) → Reads (byte ∷ text)
word-step byte text word single double command taken = by (nat_eq byte BACKSLASH) (nat_eq byte SINGLE_QUOTE) (nat_eq byte DOUBLE_QUOTE) (nat_eq byte BACKQUOTE) refl refl refl refl
  where
    by : (a b c d : Bool) → nat_eq byte BACKSLASH ≡ a → nat_eq byte SINGLE_QUOTE ≡ b → nat_eq byte DOUBLE_QUOTE ≡ c → nat_eq byte BACKQUOTE ≡ d
        → Closed InWord.Plain (byte ∷ text) → Reads (byte ∷ text)
    by true b c d h i j k = subst (λ x. Closed InWord.Plain (x ∷ text) → Reads (x ∷ text)) (sym (equal byte BACKSLASH h)) taken
    by false true c d h i j k = subst (λ x. Closed InWord.Plain (x ∷ text) → Reads (x ∷ text)) (sym (equal byte SINGLE_QUOTE i)) (λ closed. with-single text (single closed))
    by false false true d h i j k = subst (λ x. Closed InWord.Plain (x ∷ text) → Reads (x ∷ text)) (sym (equal byte DOUBLE_QUOTE j)) (λ closed. with-double text (double closed))
    by false false false true h i j k = subst (λ x. Closed InWord.Plain (x ∷ text) → Reads (x ∷ text)) (sym (equal byte BACKQUOTE k)) (λ closed. with-command text (command closed))
    by false false false false h i j k = plain-word byte text h i j k word

single-step : (byte : ℕ) (text : List ℕ) → (Closed InWord.Plain text → Reads text) → (Closed InWord.Single text → InSingle text)
    → Closed InWord.Single (byte ∷ text) → InSingle (byte ∷ text)
single-step byte text word single = by (nat_eq byte SINGLE_QUOTE) refl
  where
    by : (b : Bool) → nat_eq byte SINGLE_QUOTE ≡ b → Closed InWord.Single (byte ∷ text) → InSingle (byte ∷ text)
    by true h closed = record {
      bytes = [];
      after = text;
      text_is = ap (λ x. x ∷ text) (equal byte SINGLE_QUOTE h);
      good = refl;
      reads = word (ap (λ b. is_quote (rest_of word_places false (cond b InWord.Plain InWord.Single) text)) (sym h) ∙ closed);
    }
    by false h closed =
        let q = single (ap (λ b. is_quote (rest_of word_places false (cond b InWord.Plain InWord.Single) text)) (sym h) ∙ closed) in
        record { bytes = byte ∷ q.bytes; after = q.after; text_is = ap (λ xs. byte ∷ xs) q.text_is; good = both _ _ (not-false _ h) q.good; reads = q.reads }

-- in backquotes, at a byte
command-step : (byte : ℕ) (text : List ℕ) → (Closed InWord.Plain text → Reads text) → (Closed InWord.Backquote text → InCommand text)
    → (Closed InWord.Backquote (BACKSLASH ∷ text) → InCommand (BACKSLASH ∷ text)) → Closed InWord.Backquote (byte ∷ text) → InCommand (byte ∷ text)
command-step byte text word command taken = by (nat_eq byte BACKSLASH) (nat_eq byte BACKQUOTE) refl refl
  where
    by : (a b : Bool) → nat_eq byte BACKSLASH ≡ a → nat_eq byte BACKQUOTE ≡ b → Closed InWord.Backquote (byte ∷ text) → InCommand (byte ∷ text)
    by true b h i = subst (λ x. Closed InWord.Backquote (x ∷ text) → InCommand (x ∷ text)) (sym (equal byte BACKSLASH h)) taken
    by false true h i = subst (λ x. Closed InWord.Backquote (x ∷ text) → InCommand (x ∷ text)) (sym (equal byte BACKQUOTE i))
        (λ closed. record { marks = []; after = text; text_is = refl; good = refl; reads = word closed })
    by false false h i = λ closed.
        let q = command (sym (ap (λ b. is_quote (rest_of word_places false (cond b InWord.BackquoteEscaped (cond (nat_eq byte BACKQUOTE) InWord.Plain InWord.Backquote)) text)) h
        ∙ ap (λ b. is_quote (rest_of word_places false (cond b InWord.Plain InWord.Backquote) text)) i) ∙ closed) in
        record {
          marks = Mark.Plain byte ∷ q.marks;
          after = q.after;
          text_is = ap (λ xs. byte ∷ xs) q.text_is;
          good = both _ _ (both _ _ (not-false _ h) (not-false _ i)) q.good;
          reads = q.reads;
        }

inner-step : (byte : ℕ) (text : List ℕ) → (Closed InWord.Double text → InDouble text) → (Closed InWord.Inner text → InInner text)
    → (Closed InWord.Inner (BACKSLASH ∷ text) → InInner (BACKSLASH ∷ text)) → Closed InWord.Inner (byte ∷ text) → InInner (byte ∷ text)
inner-step byte text double command taken = by (nat_eq byte BACKSLASH) (nat_eq byte BACKQUOTE) refl refl
  where
    by : (a b : Bool) → nat_eq byte BACKSLASH ≡ a → nat_eq byte BACKQUOTE ≡ b → Closed InWord.Inner (byte ∷ text) → InInner (byte ∷ text)
    by true b h i = subst (λ x. Closed InWord.Inner (x ∷ text) → InInner (x ∷ text)) (sym (equal byte BACKSLASH h)) taken
    by false true h i = subst (λ x. Closed InWord.Inner (x ∷ text) → InInner (x ∷ text)) (sym (equal byte BACKQUOTE i))
        (λ closed. record { marks = []; after = text; text_is = refl; good = refl; reads = double closed })
    by false false h i = λ closed.
        let q = command (sym (ap (λ b. is_quote (rest_of word_places false (cond b InWord.InnerEscaped (cond (nat_eq byte BACKQUOTE) InWord.Double InWord.Inner)) text)) h
        ∙ ap (λ b. is_quote (rest_of word_places false (cond b InWord.Double InWord.Inner) text)) i) ∙ closed) in
        record {
          marks = Mark.Plain byte ∷ q.marks;
          after = q.after;
          text_is = ap (λ xs. byte ∷ xs) q.text_is;
          good = both _ _ (both _ _ (not-false _ h) (not-false _ i)) q.good;
          reads = q.reads;
        }

-- in double quotes, at a byte
double-step : (byte : ℕ) (text : List ℕ) → (Closed InWord.Plain text → Reads text) → (Closed InWord.Double text → InDouble text) → (Closed InWord.Inner text → InInner text)
    → (Closed InWord.Double (BACKSLASH ∷ text) → InDouble (BACKSLASH ∷ text)) → Closed InWord.Double (byte ∷ text) → InDouble (byte ∷ text)
double-step byte text word double command taken = by (nat_eq byte BACKSLASH) (nat_eq byte DOUBLE_QUOTE) (nat_eq byte BACKQUOTE) refl refl refl
  where
    by : (a b c : Bool) → nat_eq byte BACKSLASH ≡ a → nat_eq byte DOUBLE_QUOTE ≡ b → nat_eq byte BACKQUOTE ≡ c → Closed InWord.Double (byte ∷ text) → InDouble (byte ∷ text)
    by true b c h i j = subst (λ x. Closed InWord.Double (x ∷ text) → InDouble (x ∷ text)) (sym (equal byte BACKSLASH h)) taken
    by false true c h i j = subst (λ x. Closed InWord.Double (x ∷ text) → InDouble (x ∷ text)) (sym (equal byte DOUBLE_QUOTE i))
        (λ closed. record { inners = []; after = text; text_is = refl; good = refl; reads = word closed })
    by false false true h i j = subst (λ x. Closed InWord.Double (x ∷ text) → InDouble (x ∷ text)) (sym (equal byte BACKQUOTE j))
        (λ closed. let q = command closed in record {
          inners = Inner.Command q.marks ∷ q.reads.inners;
          after = q.reads.after;
          text_is = ap (λ xs. BACKQUOTE ∷ xs) (q.text_is ∙ ap (λ xs. marks_text q.marks xs) q.reads.text_is);
          good = both _ _ q.good q.reads.good;
          reads = q.reads.reads;
        })
    by false false false h i j = λ closed.
        let q = double (sym (ap is_quote (double-plain-on byte text h i j).place_is) ∙ closed) in
        record {
          inners = Inner.Plain byte ∷ q.inners;
          after = q.after;
          text_is = ap (λ xs. byte ∷ xs) q.text_is;
          good = both _ _ (both _ _ (both _ _ (not-false _ h) (not-false _ i)) (not-false _ j)) q.good;
          reads = q.reads;
        }

mutual
  pub word-of : (text : List ℕ) → Closed InWord.Plain text → Reads text
  word-of [] = λ closed. end-word [] refl
  word-of (byte ∷ []) = word-step byte [] (word-of []) (single-of []) (double-of []) (command-of []) (λ closed. last-word)
  word-of (byte ∷ (next ∷ bytes)) = word-step byte (next ∷ bytes) (word-of (next ∷ bytes)) (single-of (next ∷ bytes)) (double-of (next ∷ bytes)) (command-of (next ∷ bytes))
      (λ closed. with-taken next bytes (word-of bytes (sym (ap is_quote (taken-on next bytes).place_is) ∙ closed)))

  single-of : (text : List ℕ) → Closed InWord.Single text → InSingle text
  single-of [] = λ closed. no-quote closed
  single-of (byte ∷ bytes) = single-step byte bytes (word-of bytes) (single-of bytes)

  double-of : (text : List ℕ) → Closed InWord.Double text → InDouble text
  double-of [] = λ closed. no-quote closed
  double-of (byte ∷ []) = double-step byte [] (word-of []) (double-of []) (inner-of []) (λ closed. no-quote closed)
  double-of (byte ∷ (next ∷ bytes)) = double-step byte (next ∷ bytes) (word-of (next ∷ bytes)) (double-of (next ∷ bytes)) (inner-of (next ∷ bytes))
      (λ closed. let q = double-of bytes closed in record {
        inners = Inner.Taken next ∷ q.inners;
        after = q.after;
        text_is = ap (λ xs. BACKSLASH ∷ (next ∷ xs)) q.text_is;
        good = q.good;
        reads = q.reads;
      })

  command-of : (text : List ℕ) → Closed InWord.Backquote text → InCommand text
  command-of [] = λ closed. no-quote closed
  command-of (byte ∷ []) = command-step byte [] (word-of []) (command-of []) (λ closed. no-quote closed)
  command-of (byte ∷ (next ∷ bytes)) = command-step byte (next ∷ bytes) (word-of (next ∷ bytes)) (command-of (next ∷ bytes))
      (λ closed. let q = command-of bytes closed in record {
        marks = Mark.Taken next ∷ q.marks;
        after = q.after;
        text_is = ap (λ xs. BACKSLASH ∷ (next ∷ xs)) q.text_is;
        good = q.good;
        reads = q.reads;
      })

  inner-of : (text : List ℕ) → Closed InWord.Inner text → InInner text
  inner-of [] = λ closed. no-quote closed
  inner-of (byte ∷ []) = inner-step byte [] (double-of []) (inner-of []) (λ closed. no-quote closed)
  inner-of (byte ∷ (next ∷ bytes)) = inner-step byte (next ∷ bytes) (double-of (next ∷ bytes)) (inner-of (next ∷ bytes))
      (λ closed. let q = inner-of bytes closed in record {
        marks = Mark.Taken next ∷ q.marks;
        after = q.after;
        text_is = ap (λ xs. BACKSLASH ∷ (next ∷ xs)) q.text_is;
        good = q.good;
        reads = q.reads;
      })

-- a text after a word's parts
marks-append : (marks : List Mark) (xs ys : List ℕ) → marks_text marks xs ++ ys ≡ marks_text marks (xs ++ ys)
marks-append [] xs ys = refl
marks-append (Mark.Plain byte ∷ marks) xs ys = ap (λ t. byte ∷ t) (marks-append marks xs ys)
marks-append (Mark.Taken byte ∷ marks) xs ys = ap (λ t. BACKSLASH ∷ (byte ∷ t)) (marks-append marks xs ys)

inners-append : (inners : List Inner) (xs ys : List ℕ) → inners_text inners xs ++ ys ≡ inners_text inners (xs ++ ys)
inners-append [] xs ys = refl
inners-append (Inner.Plain byte ∷ inners) xs ys = ap (λ t. byte ∷ t) (inners-append inners xs ys)
inners-append (Inner.Taken byte ∷ inners) xs ys = ap (λ t. BACKSLASH ∷ (byte ∷ t)) (inners-append inners xs ys)
inners-append (Inner.Command marks ∷ inners) xs ys =
    ap (λ t. BACKQUOTE ∷ t) (marks-append marks (inners_text inners xs) ys ∙ ap (λ t. marks_text marks t) (inners-append inners xs ys))

pub parts-append : (parts : List Part) (xs ys : List ℕ) → word_text parts xs ++ ys ≡ word_text parts (xs ++ ys)
parts-append [] xs ys = refl
parts-append (Part.Plain byte ∷ parts) xs ys = ap (λ t. byte ∷ t) (parts-append parts xs ys)
parts-append (Part.Taken byte ∷ parts) xs ys = ap (λ t. BACKSLASH ∷ (byte ∷ t)) (parts-append parts xs ys)
parts-append (Part.Single bytes ∷ parts) xs ys =
    ap (λ t. SINGLE_QUOTE ∷ t) (append_assoc bytes (SINGLE_QUOTE ∷ word_text parts xs) ys ∙ ap (λ t. bytes ++ (SINGLE_QUOTE ∷ t)) (parts-append parts xs ys))
parts-append (Part.Double inners ∷ parts) xs ys =
    ap (λ t. DOUBLE_QUOTE ∷ t) (inners-append inners (word_text parts xs) ys ∙ ap (λ t. inners_text inners t) (parts-append parts xs ys))
parts-append (Part.Command marks ∷ parts) xs ys =
    ap (λ t. BACKQUOTE ∷ t) (marks-append marks (word_text parts xs) ys ∙ ap (λ t. marks_text marks t) (parts-append parts xs ys))

-- a word is what a reader reads, and no quote is open after it
pub record IsRead (word : List ℕ) (behind : List ℕ) : Type 0 where
  pub length_is : far word_places InWord.Plain (word ++ behind) ≡ length word
  pub closed : is_quote (rest_of word_places false InWord.Plain (word ++ behind)) ≡ false

read-ends : (behind : List ℕ) → ends_name behind ≡ true → (far word_places InWord.Plain behind ≡ 0) × (is_quote (rest_of word_places false InWord.Plain behind) ≡ false)
read-ends [] h = (refl, refl)
read-ends (byte ∷ bytes) h = (
  ap (λ b. cond b 0 (reach_of word_places false (word_after InWord.Plain byte) bytes + 1)) h,
  ap (λ b. is_quote (cond b InWord.Plain (rest_of word_places false (word_after InWord.Plain byte) bytes))) h,
)

pub word-read : (word behind : List ℕ) → IsWord word behind → IsRead word behind
word-read word behind w = elim w.ends [
  | inl e ↦ by [] behind (read-ends behind e.1).0 (read-ends behind e.1).1 (ap (λ xs. word_text w.parts xs) e.0)
  | inr e ↦ subst (λ xs. IsRead word xs) (sym e.1) (by (BACKSLASH ∷ []) [] refl refl (ap (λ xs. word_text w.parts xs) e.0))
]
  where
    by : (last after : List ℕ) → far word_places InWord.Plain (last ++ after) ≡ length last → is_quote (rest_of word_places false InWord.Plain (last ++ after)) ≡ false
        → word_text w.parts w.last ≡ word_text w.parts last → IsRead word after
    by last after far_is closed last_is =
        let g = word-on w.parts (last ++ after) w.good in
        let text_is : word ++ after ≡ word_text w.parts (last ++ after) = ap (λ xs. xs ++ after) (w.word_is ∙ last_is) ∙ parts-append w.parts last after in
        record {
          length_is = ap (λ xs. far word_places InWord.Plain xs) text_is
              ∙ omega (arith, g.far_is, g.length_is, far_is, ap length text_is, length-append word after, length-append last after);
          closed = ap (λ xs. is_quote (rest_of word_places false InWord.Plain xs)) text_is ∙ ap is_quote g.place_is ∙ closed;
        }

-- where no quote is left open, what is read is a word
pub read-word : (text : List ℕ) → Closed InWord.Plain text → IsWord (take (far word_places InWord.Plain text) text) (drop (far word_places InWord.Plain text) text)
read-word text closed =
    let r = word-of text closed in
    let word = word_text r.parts r.last in
    let w : IsWord word r.behind = record { parts = r.parts; last = r.last; word_is = refl; good = r.good; ends = r.ends } in
    let text_is : word ++ r.behind ≡ text = parts-append r.parts r.last r.behind ∙ sym r.text_is in
    let n : length word ≡ far word_places InWord.Plain (word ++ r.behind) = sym (word-read word r.behind w).length_is in
    subst (λ xs. IsWord (take (far word_places InWord.Plain xs) xs) (drop (far word_places InWord.Plain xs) xs)) text_is
    (subst (λ xs. IsWord xs (drop (far word_places InWord.Plain (word ++ r.behind)) (word ++ r.behind))) (sym (take_at word r.behind _ n))
    (subst (λ xs. IsWord word xs) (sym (drop_at word r.behind _ n)) w))

-- the same of a value, which may be a comment
pub value-read : (word behind : List ℕ) → IsValue word behind → (word_length (word ++ behind) ≡ length word) × (is_unclosed (word ++ behind) ≡ false)
value-read word behind (Empty word_is hash) =
    let h : begins_with HASH (word ++ behind) ≡ true = ap (λ xs. begins_with HASH (xs ++ behind)) word_is ∙ hash in
    (ap (λ b. cond b 0 (far word_places InWord.Plain (word ++ behind))) h ∙ ap length (sym word_is), ap (λ b. not b && is_quote (rest_of word_places false InWord.Plain (word ++ behind))) h)
value-read word behind (Word hash w) =
    let r = word-read word behind w in (
      ap (λ b. cond b 0 (far word_places InWord.Plain (word ++ behind))) hash ∙ r.length_is,
      ap (λ b. not b && is_quote (rest_of word_places false InWord.Plain (word ++ behind))) hash ∙ r.closed,
    )

pub read-value : (text : List ℕ) → is_unclosed text ≡ false → IsValue (take (word_length text) text) (drop (word_length text) text)
read-value text closed = by (begins_with HASH text) refl
  where
    by : (b : Bool) → begins_with HASH text ≡ b → IsValue (take (word_length text) text) (drop (word_length text) text)
    by true h = subst (λ n. IsValue (take n text) (drop n text)) (sym (ap (λ b. cond b 0 (far word_places InWord.Plain text)) h)) (Empty refl h)
    by false h = subst (λ n. IsValue (take n text) (drop n text)) (sym (ap (λ b. cond b 0 (far word_places InWord.Plain text)) h))
        (Word (ap (begins_with HASH) (take-append-drop (far word_places InWord.Plain text) text) ∙ h)
        (read-word text (ap (λ b. not b && is_quote (rest_of word_places false InWord.Plain text)) (sym h) ∙ closed)))
