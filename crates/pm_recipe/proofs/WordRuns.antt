-- A reader of flags, or of a text to a line's end, comes as far as the words go.
use Rattle.std.proofs.Common.{◌≡◌, ◌+◌, ℕ, suc, Bool, true, false, not, ◌&&◌, ◌||◌, cond, nat_eq, List, [], ◌∷◌, ◌++◌, refl, ap, sym, ◌∙◌, length, take, drop, arith, subst}
use Rattle.std.proofs.lemmas.List.{take-append-drop, append_assoc, length-append}
use Rattle.pm_bytes.specs.Letter.{is_blank_byte}
use Rattle.pm_bytes.specs.Alphabet.{NEWLINE, BACKSLASH, COLON, HASH}
use Rattle.pm_recipe.specs.Bytes.{begins_with}
use Rattle.pm_recipe.specs.Places.{Places, joins_before, reach_of, far}
use Rattle.pm_recipe.specs.declared.runs.UpTo.TheVariants as UpTo
use Rattle.pm_recipe.specs.declared.line_words.InFlags.{InFlags}
use Rattle.pm_recipe.specs.declared.line_words.InTail.{InTail}
use Rattle.pm_recipe.specs.Runs.{up_to_places}
use Rattle.pm_recipe.specs.LineWords.{flag_ends, flag_places, tail_places}
use Rattle.pm_recipe.specs.Front.{ends_line}
use Rattle.pm_recipe.specs.Spans.{newlines}
use Rattle.pm_recipe.specs.Words.{belongs, IsLine, AreWords, joins, in_flags, in_words, in_line, IsRest, IsTail}
use Rattle.pm_recipe.proofs.RunLengths.{once}
use Rattle.pm_recipe.proofs.Forms.{equal, no, rest-run}

pub true-false : {A : Type 0} → true ≡ false → A
true-false h = absurd (grind arith)

allowed-only : (a j k : Bool) → (a || j || k) ≡ true → (j || k) ≡ false → a ≡ true
allowed-only true j k h i = refl
allowed-only false j k h i = no (sym i ∙ h)

pub not-allowed : (a j k : Bool) → (a || j || k) ≡ false → a ≡ false
not-allowed true j k h = h
not-allowed false j k h = refl

no-join : (a j k : Bool) → (a || j || k) ≡ false → (j || k) ≡ false
no-join true j k h = true-false h
no-join false j k h = h

goes-by : (j k e : Bool) → (j || k) ≡ true → (not k && not j && e) ≡ false
goes-by true true e h = refl
goes-by true false e h = refl
goes-by false true e h = refl
goes-by false false e h = no h

stays-by : (j k : Bool) {A : Type 0} (x y : A) → (j || k) ≡ true → cond (k || j) x y ≡ x
stays-by true true x y h = refl
stays-by true false x y h = refl
stays-by false true x y h = refl
stays-by false false x y h = no h

tests-by : (j k e : Bool) → (j || k) ≡ false → (not k && not j && e) ≡ e
tests-by true true e h = true-false h
tests-by true false e h = true-false h
tests-by false true e h = true-false h
tests-by false false e h = refl

leaves-by : (j k : Bool) {A : Type 0} (x y : A) → (j || k) ≡ false → cond (k || j) x y ≡ y
leaves-by true true x y h = true-false h
leaves-by true false x y h = true-false h
leaves-by false true x y h = true-false h
leaves-by false false x y h = refl

-- a place at which two lines can be joined
module _ {Place : Type 0} (places : Places Place) (at : Place) (yes : places.joins at ≡ true) where
  -- one byte
  pub one : (before byte : ℕ) (bytes : List ℕ)
      → reach_of places (nat_eq before BACKSLASH && nat_eq byte NEWLINE) at (byte ∷ bytes)
      ≡ cond (not (nat_eq before BACKSLASH && nat_eq byte NEWLINE) && not (nat_eq byte BACKSLASH && begins_with 10 bytes) && places.ends at byte) 0
      (suc (reach_of places (nat_eq byte BACKSLASH && begins_with 10 bytes)
      (cond ((nat_eq before BACKSLASH && nat_eq byte NEWLINE) || (nat_eq byte BACKSLASH && begins_with 10 bytes)) at (places.after at byte)) bytes))
  one before byte bytes =
      let joined = nat_eq before BACKSLASH && nat_eq byte NEWLINE in
      let joining = nat_eq byte BACKSLASH && begins_with 10 bytes in
      let is : joins_before places at byte bytes ≡ joining = ap (λ j. j && nat_eq byte BACKSLASH && begins_with 10 bytes) yes in
      ap (λ j. cond (not joined && not j && places.ends at byte) 0 (reach_of places (j && not joined) (cond (joined || j) at (places.after at byte)) bytes + 1)) is
      ∙ ap (λ n. cond (not joined && not joining && places.ends at byte) 0 n)
      (ap (λ j. reach_of places j (cond (joined || joining) at (places.after at byte)) bytes + 1) (once byte (begins_with 10 bytes) (nat_eq before BACKSLASH)) ∙ omega arith)

  -- at a join
  pub one-joined : (before byte : ℕ) (bytes : List ℕ) → joins before byte bytes ≡ true
      → reach_of places (nat_eq before BACKSLASH && nat_eq byte NEWLINE) at (byte ∷ bytes) ≡ suc (reach_of places (nat_eq byte BACKSLASH && begins_with 10 bytes) at bytes)
  one-joined before byte bytes h =
      let joined = nat_eq before BACKSLASH && nat_eq byte NEWLINE in
      let joining = nat_eq byte BACKSLASH && begins_with 10 bytes in
      one before byte bytes
      ∙ ap (λ b. cond b 0 (suc (reach_of places joining (cond (joined || joining) at (places.after at byte)) bytes))) (goes-by joining joined (places.ends at byte) h)
      ∙ ap (λ p. suc (reach_of places joining p bytes)) (stays-by joining joined at (places.after at byte) h)

  -- at another byte
  pub one-other : (before byte : ℕ) (bytes : List ℕ) → joins before byte bytes ≡ false
      → reach_of places (nat_eq before BACKSLASH && nat_eq byte NEWLINE) at (byte ∷ bytes)
      ≡ cond (places.ends at byte) 0 (suc (reach_of places (nat_eq byte BACKSLASH && begins_with 10 bytes) (places.after at byte) bytes))
  one-other before byte bytes h =
      let joined = nat_eq before BACKSLASH && nat_eq byte NEWLINE in
      let joining = nat_eq byte BACKSLASH && begins_with 10 bytes in
      one before byte bytes
      ∙ ap (λ b. cond b 0 (suc (reach_of places joining (cond (joined || joining) at (places.after at byte)) bytes))) (tests-by joining joined (places.ends at byte) h)
      ∙ ap (λ p. cond (places.ends at byte) 0 (suc (reach_of places joining p bytes))) (leaves-by joining joined at (places.after at byte) h)

-- places for words, by whether a word can begin
module _ {Place : Type 0} (places : Places Place) (at : Bool → Place) (allowed : Bool → ℕ → Bool) (yes : (fresh : Bool) → places.joins (at fresh) ≡ true)
    (goes : (fresh : Bool) (byte : ℕ) → allowed fresh byte ≡ true → places.ends (at fresh) byte ≡ false)
    (after : (fresh : Bool) (byte : ℕ) → allowed fresh byte ≡ true → places.after (at fresh) byte ≡ at (is_blank_byte byte)) where
  abbrev pub far_words : Bool → ℕ → List ℕ → ℕ
  far_words fresh before text = reach_of places (nat_eq before BACKSLASH && begins_with 10 text) (at fresh) text

  pub go-words : (fresh : Bool) (before byte : ℕ) (bytes : List ℕ) → belongs (allowed fresh) before byte bytes ≡ true
      → far_words fresh before (byte ∷ bytes) ≡ suc (far_words (cond (joins before byte bytes) fresh (is_blank_byte byte)) byte bytes)
  go-words fresh before byte bytes h = by (joins before byte bytes) refl
    where
      by : (b : Bool) → joins before byte bytes ≡ b → far_words fresh before (byte ∷ bytes) ≡ suc (far_words (cond b fresh (is_blank_byte byte)) byte bytes)
      by true j = one-joined places (at fresh) (yes fresh) before byte bytes j
      by false j =
          let a : allowed fresh byte ≡ true = allowed-only (allowed fresh byte) (nat_eq byte BACKSLASH && begins_with 10 bytes) (nat_eq before BACKSLASH && nat_eq byte NEWLINE) h j in
          one-other places (at fresh) (yes fresh) before byte bytes j
          ∙ ap (λ b. cond b 0 (suc (reach_of places (nat_eq byte BACKSLASH && begins_with 10 bytes) (places.after (at fresh) byte) bytes))) (goes fresh byte a)
          ∙ ap (λ p. suc (reach_of places (nat_eq byte BACKSLASH && begins_with 10 bytes) p bytes)) (after fresh byte a)

-- among flags
abbrev pub flag_at : Bool → InFlags
flag_at fresh = cond fresh InFlags.Fresh InFlags.Word

not_not : (b : Bool) → b ≡ not (not b)
not_not true = refl
not_not false = refl

flags-end : (fresh : Bool) (byte : ℕ) → flag_ends (flag_at fresh) byte ≡ not (in_flags fresh byte)
flags-end true byte = not_not (nat_eq byte NEWLINE || nat_eq byte COLON || nat_eq byte HASH)
flags-end false byte = or-false (nat_eq byte NEWLINE || nat_eq byte COLON) ∙ not_not (nat_eq byte NEWLINE || nat_eq byte COLON || false)
  where
    or-false : (b : Bool) → b ≡ (b || false)
    or-false true = refl
    or-false false = refl

flags-join : (fresh : Bool) → flag_places.joins (flag_at fresh) ≡ true
flags-join true = refl
flags-join false = refl

flags-go : (fresh : Bool) (byte : ℕ) → in_flags fresh byte ≡ true → flag_ends (flag_at fresh) byte ≡ false
flags-go fresh byte h = flags-end fresh byte ∙ ap not h

flags-after : (fresh : Bool) (byte : ℕ) → in_flags fresh byte ≡ true → flag_places.after (flag_at fresh) byte ≡ flag_at (is_blank_byte byte)
flags-after true byte h = refl
flags-after false byte h = refl

abbrev pub far_flags : Bool → ℕ → List ℕ → ℕ
far_flags fresh before text = reach_of flag_places (nat_eq before BACKSLASH && begins_with 10 text) (flag_at fresh) text

flags-step : (fresh : Bool) (before byte : ℕ) (bytes : List ℕ) → belongs (in_flags fresh) before byte bytes ≡ true
    → far_flags fresh before (byte ∷ bytes) ≡ suc (far_flags (cond (joins before byte bytes) fresh (is_blank_byte byte)) byte bytes)
flags-step = go-words flag_places flag_at in_flags flags-join flags-go flags-after

flags-stop : (fresh : Bool) (before byte : ℕ) (bytes : List ℕ) → belongs (in_flags fresh) before byte bytes ≡ false → far_flags fresh before (byte ∷ bytes) ≡ 0
flags-stop fresh before byte bytes h =
    let joining = nat_eq byte BACKSLASH && begins_with 10 bytes in
    let joined = nat_eq before BACKSLASH && nat_eq byte NEWLINE in
    one-other flag_places (flag_at fresh) (flags-join fresh) before byte bytes (no-join (in_flags fresh byte) joining joined h)
    ∙ ap (λ b. cond b 0 (suc (reach_of flag_places joining (flag_places.after (flag_at fresh) byte) bytes)))
    (flags-end fresh byte ∙ ap not (not-allowed (in_flags fresh byte) joining joined h))

pub flags-run : (fresh : Bool) (before : ℕ) (text : List ℕ)
    → AreWords in_flags fresh before (take (far_flags fresh before text) text) (drop (far_flags fresh before text) text)
flags-run fresh before [] = by fresh
  where
    by : (b : Bool) → AreWords in_flags fresh before (take (reach_of flag_places (nat_eq before BACKSLASH && false) (flag_at b) []) []) (drop (reach_of flag_places (nat_eq before BACKSLASH && false) (flag_at b) []) [])
    by true = tt
    by false = tt
flags-run fresh before (byte ∷ bytes) =
    by (belongs (in_flags fresh) before byte bytes) refl (flags-run (cond (joins before byte bytes) fresh (is_blank_byte byte)) byte bytes)
  where
    by : (b : Bool) → belongs (in_flags fresh) before byte bytes ≡ b
        → AreWords in_flags (cond (joins before byte bytes) fresh (is_blank_byte byte)) byte
        (take (far_flags (cond (joins before byte bytes) fresh (is_blank_byte byte)) byte bytes) bytes)
        (drop (far_flags (cond (joins before byte bytes) fresh (is_blank_byte byte)) byte bytes) bytes)
        → AreWords in_flags fresh before (take (far_flags fresh before (byte ∷ bytes)) (byte ∷ bytes)) (drop (far_flags fresh before (byte ∷ bytes)) (byte ∷ bytes))
    by true h rest =
        let fresh' = cond (joins before byte bytes) fresh (is_blank_byte byte) in
        let n = far_flags fresh' byte bytes in
        let whole : take n bytes ++ drop n bytes ≡ bytes = take-append-drop n bytes in
        let P : ℕ → Type 0 = λ k. AreWords in_flags fresh before (take k (byte ∷ bytes)) (drop k (byte ∷ bytes)) in
        subst P (sym (flags-step fresh before byte bytes h)) (
          ap (λ t. belongs (in_flags fresh) before byte t) whole ∙ h,
          subst (λ t. AreWords in_flags (cond (joins before byte t) fresh (is_blank_byte byte)) byte (take n bytes) (drop n bytes)) (sym whole) rest,
        )
    by false h rest =
        let P : ℕ → Type 0 = λ k. AreWords in_flags fresh before (take k (byte ∷ bytes)) (drop k (byte ∷ bytes)) in
        subst P (sym (flags-stop fresh before byte bytes h)) h

pub flags-length : (fresh : Bool) (before : ℕ) (text behind : List ℕ) → AreWords in_flags fresh before text behind → far_flags fresh before (text ++ behind) ≡ length text
flags-length true before [] [] h = refl
flags-length false before [] [] h = refl
flags-length fresh before [] (byte ∷ bytes) h = flags-stop fresh before byte bytes h
flags-length fresh before (byte ∷ text) behind h =
    flags-step fresh before byte (text ++ behind) h.0 ∙ ap suc (flags-length (cond (joins before byte (text ++ behind)) fresh (is_blank_byte byte)) byte text behind h.1)

-- the rest of a line as written
pub rest-length : (text behind : List ℕ) → IsRest text behind → far up_to_places UpTo.Newline (text ++ behind) ≡ length text
rest-length [] [] h = refl
rest-length [] (byte ∷ bytes) h = ap (λ b. cond b 0 (far up_to_places UpTo.Newline bytes + 1)) h.ends
rest-length (byte ∷ text) behind h = by (nat_eq byte NEWLINE) refl (rest-length text behind)
  where
    by : (b : Bool) → nat_eq byte NEWLINE ≡ b → (IsRest text behind → far up_to_places UpTo.Newline (text ++ behind) ≡ length text)
        → far up_to_places UpTo.Newline (byte ∷ (text ++ behind)) ≡ suc (length text)
    by true e rest = let none : suc (newlines text) ≡ 0 = omega (arith, sym (ap (λ b. cond b (newlines text + 1) (newlines text)) e) ∙ h.inside) in absurd (omega (arith, none))
    by false e rest =
        ap (λ b. cond b 0 (far up_to_places UpTo.Newline (text ++ behind) + 1)) e
        ∙ omega (arith, rest (record { inside = sym (ap (λ b. cond b (newlines text + 1) (newlines text)) e) ∙ h.inside; ends = h.ends }))

-- in a text to a line's end
abbrev pub tail_at : Bool → InTail
tail_at fresh = cond fresh InTail.Fresh InTail.Word

tails-join : (fresh : Bool) → tail_places.joins (tail_at fresh) ≡ true
tails-join true = refl
tails-join false = refl

tails-end : (fresh : Bool) (byte : ℕ) → tail_places.ends (tail_at fresh) byte ≡ nat_eq byte NEWLINE
tails-end true byte = refl
tails-end false byte = refl

word-line : (fresh : Bool) (byte : ℕ) → in_words fresh byte ≡ true → nat_eq byte NEWLINE ≡ false
word-line fresh byte h = by (nat_eq byte NEWLINE) h
  where
    by : (b : Bool) → not (b || (fresh && nat_eq byte HASH)) ≡ true → b ≡ false
    by true h = no h
    by false h = refl

tails-go : (fresh : Bool) (byte : ℕ) → in_words fresh byte ≡ true → tail_places.ends (tail_at fresh) byte ≡ false
tails-go fresh byte h = tails-end fresh byte ∙ word-line fresh byte h

tails-after : (fresh : Bool) (byte : ℕ) → in_words fresh byte ≡ true → tail_places.after (tail_at fresh) byte ≡ tail_at (is_blank_byte byte)
tails-after true byte h = by (nat_eq byte NEWLINE) (nat_eq byte HASH) h
  where
    by : (a b : Bool) → not (a || b) ≡ true → cond b InTail.Comment (cond (is_blank_byte byte) InTail.Fresh InTail.Word) ≡ tail_at (is_blank_byte byte)
    by true b h = no h
    by false true h = no h
    by false false h = refl
tails-after false byte h = refl

abbrev pub far_tail : Bool → ℕ → List ℕ → ℕ
far_tail fresh before text = reach_of tail_places (nat_eq before BACKSLASH && begins_with 10 text) (tail_at fresh) text

tails-step : (fresh : Bool) (before byte : ℕ) (bytes : List ℕ) → belongs (in_words fresh) before byte bytes ≡ true
    → far_tail fresh before (byte ∷ bytes) ≡ suc (far_tail (cond (joins before byte bytes) fresh (is_blank_byte byte)) byte bytes)
tails-step = go-words tail_places tail_at in_words tails-join tails-go tails-after

-- at a newline, and at a comment
tails-stop : (fresh : Bool) (before byte : ℕ) (bytes : List ℕ) → belongs (in_words fresh) before byte bytes ≡ false → nat_eq byte NEWLINE ≡ true
    → far_tail fresh before (byte ∷ bytes) ≡ 0
tails-stop fresh before byte bytes h ends =
    let joining = nat_eq byte BACKSLASH && begins_with 10 bytes in
    let joined = nat_eq before BACKSLASH && nat_eq byte NEWLINE in
    one-other tail_places (tail_at fresh) (tails-join fresh) before byte bytes (no-join (in_words fresh byte) joining joined h)
    ∙ ap (λ b. cond b 0 (suc (reach_of tail_places joining (tail_places.after (tail_at fresh) byte) bytes))) (tails-end fresh byte ∙ ends)

-- a comment goes up to the newline
comment-far : (bytes : List ℕ) → far tail_places InTail.Comment bytes ≡ far up_to_places UpTo.Newline bytes
comment-far [] = refl
comment-far (byte ∷ bytes) = ap (λ n. cond (nat_eq byte NEWLINE) 0 (n + 1)) (comment-far bytes)

tails-comment : (fresh : Bool) (before byte : ℕ) (bytes : List ℕ) → belongs (in_words fresh) before byte bytes ≡ false → nat_eq byte NEWLINE ≡ false
    → far_tail fresh before (byte ∷ bytes) ≡ suc (far up_to_places UpTo.Newline bytes)
tails-comment fresh before byte bytes h line =
    let joining = nat_eq byte BACKSLASH && begins_with 10 bytes in
    let joined = nat_eq before BACKSLASH && nat_eq byte NEWLINE in
    let hash : (fresh && nat_eq byte HASH) ≡ true = not-word (nat_eq byte NEWLINE) (fresh && nat_eq byte HASH) (not-allowed (in_words fresh byte) joining joined h) line in
    one-other tail_places (tail_at fresh) (tails-join fresh) before byte bytes (no-join (in_words fresh byte) joining joined h)
    ∙ ap (λ b. cond b 0 (suc (reach_of tail_places joining (tail_places.after (tail_at fresh) byte) bytes))) (tails-end fresh byte ∙ line)
    ∙ by fresh hash
  where
    not-word : (a b : Bool) → not (a || b) ≡ false → a ≡ false → b ≡ true
    not-word true b h i = true-false i
    not-word false true h i = refl
    not-word false false h i = sym h

    comment : nat_eq byte HASH ≡ true → suc (reach_of tail_places (nat_eq byte BACKSLASH && begins_with 10 bytes) (cond (nat_eq byte HASH) InTail.Comment (cond (is_blank_byte byte) InTail.Fresh InTail.Word)) bytes)
        ≡ suc (far up_to_places UpTo.Newline bytes)
    comment e =
        ap (λ b. suc (reach_of tail_places (nat_eq byte BACKSLASH && begins_with 10 bytes) (cond b InTail.Comment (cond (is_blank_byte byte) InTail.Fresh InTail.Word)) bytes)) e
        ∙ ap (λ b. suc (reach_of tail_places (nat_eq b BACKSLASH && begins_with 10 bytes) InTail.Comment bytes)) (equal byte HASH e)
        ∙ ap suc (comment-far bytes)

    by : (f : Bool) → (f && nat_eq byte HASH) ≡ true
        → suc (reach_of tail_places (nat_eq byte BACKSLASH && begins_with 10 bytes) (tail_places.after (tail_at f) byte) bytes) ≡ suc (far up_to_places UpTo.Newline bytes)
    by true e = comment e
    by false e = no e

pub tail-run : (fresh : Bool) (before : ℕ) (text : List ℕ) → IsTail fresh before (take (far_tail fresh before text) text) (drop (far_tail fresh before text) text)
tail-run fresh before [] = by fresh
  where
    by : (b : Bool) → IsTail fresh before (take (reach_of tail_places (nat_eq before BACKSLASH && false) (tail_at b) []) []) (drop (reach_of tail_places (nat_eq before BACKSLASH && false) (tail_at b) []) [])
    by true = record { words = []; comment = []; text_is = refl; worded = tt; rest = record { inside = refl; ends = refl } }
    by false = record { words = []; comment = []; text_is = refl; worded = tt; rest = record { inside = refl; ends = refl } }
tail-run fresh before (byte ∷ bytes) =
    by (belongs (in_words fresh) before byte bytes) (nat_eq byte NEWLINE) refl refl (tail-run (cond (joins before byte bytes) fresh (is_blank_byte byte)) byte bytes)
  where
    by : (b c : Bool) → belongs (in_words fresh) before byte bytes ≡ b → nat_eq byte NEWLINE ≡ c
        → IsTail (cond (joins before byte bytes) fresh (is_blank_byte byte)) byte
        (take (far_tail (cond (joins before byte bytes) fresh (is_blank_byte byte)) byte bytes) bytes)
        (drop (far_tail (cond (joins before byte bytes) fresh (is_blank_byte byte)) byte bytes) bytes)
        → IsTail fresh before (take (far_tail fresh before (byte ∷ bytes)) (byte ∷ bytes)) (drop (far_tail fresh before (byte ∷ bytes)) (byte ∷ bytes))
    by true c h e t =
        let n = far_tail (cond (joins before byte bytes) fresh (is_blank_byte byte)) byte bytes in
        let whole : t.words ++ (t.comment ++ drop n bytes) ≡ bytes =
        sym (append_assoc t.words t.comment (drop n bytes)) ∙ ap (λ xs. xs ++ drop n bytes) (sym t.text_is) ∙ take-append-drop n bytes in
        let P : ℕ → Type 0 = λ k. IsTail fresh before (take k (byte ∷ bytes)) (drop k (byte ∷ bytes)) in
        subst P (sym (tails-step fresh before byte bytes h))
        (record {
          words = byte ∷ t.words;
          comment = t.comment;
          text_is = ap (λ xs. byte ∷ xs) t.text_is;
          worded = (
            ap (λ xs. belongs (in_words fresh) before byte xs) whole ∙ h,
            subst (λ xs. AreWords in_words (cond (joins before byte xs) fresh (is_blank_byte byte)) byte t.words (t.comment ++ drop n bytes)) (sym whole) t.worded,
          );
          rest = t.rest;
        })
    by false true h e t =
        let P : ℕ → Type 0 = λ k. IsTail fresh before (take k (byte ∷ bytes)) (drop k (byte ∷ bytes)) in
        subst P (sym (tails-stop fresh before byte bytes h e))
        (record { words = []; comment = []; text_is = refl; worded = h; rest = record { inside = refl; ends = e } })
    by false false h e t =
        let P : ℕ → Type 0 = λ k. IsTail fresh before (take k (byte ∷ bytes)) (drop k (byte ∷ bytes)) in
        let n = far up_to_places UpTo.Newline bytes in
        let r = rest-run bytes in
        subst P (sym (tails-comment fresh before byte bytes h e))
        (record {
          words = [];
          comment = byte ∷ take n bytes;
          text_is = refl;
          worded = ap (λ xs. belongs (in_words fresh) before byte xs) (take-append-drop n bytes) ∙ h;
          rest = record { inside = ap (λ b. cond b (newlines (take n bytes) + 1) (newlines (take n bytes))) e ∙ r.inside; ends = r.ends };
        })

words-length : (fresh : Bool) (before : ℕ) (words comment behind : List ℕ) → AreWords in_words fresh before words (comment ++ behind) → IsRest comment behind
    → far_tail fresh before (words ++ (comment ++ behind)) ≡ length words + length comment
words-length true before [] [] [] h r = refl
words-length false before [] [] [] h r = refl
words-length fresh before [] [] (byte ∷ bytes) h r = tails-stop fresh before byte bytes h r.ends
words-length fresh before [] (byte ∷ comment) behind h r = by (nat_eq byte NEWLINE) refl
  where
    by : (b : Bool) → nat_eq byte NEWLINE ≡ b → far_tail fresh before (byte ∷ (comment ++ behind)) ≡ 0 + suc (length comment)
    by true e = let none : suc (newlines comment) ≡ 0 = omega (arith, sym (ap (λ b. cond b (newlines comment + 1) (newlines comment)) e) ∙ r.inside) in absurd (omega (arith, none))
    by false e =
        let s : IsRest comment behind = record { inside = sym (ap (λ b. cond b (newlines comment + 1) (newlines comment)) e) ∙ r.inside; ends = r.ends } in
        tails-comment fresh before byte (comment ++ behind) h e ∙ omega (arith, rest-length comment behind s)
words-length fresh before (byte ∷ words) comment behind h r =
    tails-step fresh before byte (words ++ (comment ++ behind)) h.0
    ∙ omega (arith, words-length (cond (joins before byte (words ++ (comment ++ behind))) fresh (is_blank_byte byte)) byte words comment behind h.1 r)

pub tail-length : (fresh : Bool) (before : ℕ) (text behind : List ℕ) → IsTail fresh before text behind → far_tail fresh before (text ++ behind) ≡ length text
tail-length fresh before text behind t =
    ap (λ xs. far_tail fresh before xs) (ap (λ xs. xs ++ behind) t.text_is ∙ append_assoc t.words t.comment behind)
    ∙ words-length fresh before t.words t.comment behind t.worded t.rest
    ∙ sym (ap length t.text_is ∙ length-append t.words t.comment)

-- a line ends at the end or at a newline
pub line-ends : (before : ℕ) (text behind : List ℕ) → IsLine before text behind → ends_line behind ≡ true
line-ends before [] [] h = refl
line-ends before [] (byte ∷ bytes) h = by (nat_eq byte NEWLINE) (not-allowed (in_line byte) (nat_eq byte BACKSLASH && begins_with 10 bytes) (nat_eq before BACKSLASH && nat_eq byte NEWLINE) h)
  where
    by : (b : Bool) → not b ≡ false → b ≡ true
    by true h = refl
    by false h = sym h
line-ends before (byte ∷ text) behind h = line-ends byte text behind h.1
