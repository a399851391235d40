-- What is read out of a colon line is what its form says.
use Rattle.std.proofs.Common.{◌≡◌, ◌≤◌, ℕ, Bool, true, false, not, ◌&&◌, ◌||◌, cond, nat_eq, nat_lt, List, [], ◌∷◌, ◌++◌, Some, None, Option, refl, ap, sym, ◌∙◌, take, drop, length, inl, inr, arith, subst, append-nil}
use Rattle.std.proofs.lemmas.List.{take_at, drop_at, take-append-drop, append_assoc, length-append, drop_all, take_all}
use Rattle.std.proofs.lemmas.Bool.{cond-true, cond-false}
use Rattle.std.proofs.lemmas.Bool.Decides.{nat_tests}
use Rattle.pm_bytes.specs.Alphabet.{NEWLINE, BACKSLASH, COLON, HASH, ZERO}
use Rattle.pm_bytes.specs.Letter.{is_blank_byte}
use Rattle.pm_recipe.specs.Bytes.{begins_with}
use Rattle.pm_recipe.specs.Places.{far, text_after}
use Rattle.pm_recipe.specs.declared.runs.Run.TheVariants as Run
use Rattle.pm_recipe.specs.declared.line_words.InFlags.TheVariants as InFlags
use Rattle.pm_recipe.specs.Runs.{run_places}
use Rattle.pm_recipe.specs.LineWords.{flag_places}
use Rattle.pm_recipe.specs.Colon.{after_zero, after_lock, flags_part, has_lock, lock_part, lock_of, word_length, ends_statement, has_junk}
use Rattle.pm_recipe.specs.Front.{ends_name, ends_line}
use Rattle.pm_recipe.specs.Words.{joins, IsRun, AreBlanks, AreJoins, AreWords, in_join, in_flags}
use Rattle.pm_recipe.specs.Quotes.{IsValue, IsWord}
use Rattle.pm_recipe.specs.Quotes.IsValue.{Empty, Word}
use Rattle.pm_recipe.specs.Spells.{IsHead, IsLockHead, IsColonLine}
use Rattle.pm_recipe.specs.Spells.IsColonLine.{Plain as NoLock, Locked as WithLock}
use Rattle.pm_recipe.specs.Says.{is_flag_or_blank, AreFlags, IsQuiet, Denies, IsColonText}
use Rattle.pm_recipe.specs.Says.IsColonText.{Plain, Locked}
use Rattle.pm_recipe.proofs.RunLengths.{run, run-length}
use Rattle.pm_recipe.proofs.Forms.{no, blanks-run}
use Rattle.pm_recipe.proofs.WordRuns.{flags-length, true-false}
use Rattle.pm_recipe.proofs.Worded.{value-read}
use Rattle.pm_recipe.proofs.Taking.{joins-far, known-head, blanks-far}
use Rattle.pm_recipe.proofs.OneCut.{same-first}

pub flags-read : (text after : List ℕ) (h : IsHead text after) → flags_part text ≡ h.flags
flags-read text after h =
    let flagged = h.flags ++ after in
    let joins_is : text_after run_places Run.Joins (h.joins ++ (ZERO ∷ flagged)) ≡ ZERO ∷ flagged =
    drop_at h.joins (ZERO ∷ flagged) _ (sym (joins-far h.joins (ZERO ∷ flagged) h.joined)) in
    let zero_is : after_zero text ≡ flagged = ap after_zero h.text_is ∙ ap (drop 1) joins_is in
    ap (λ xs. take (far flag_places InFlags.Word xs) xs) zero_is ∙ take_at h.flags after _ (sym (flags-length false 0 h.flags after h.flagged))

lock-none : (text after : List ℕ) → IsHead text after → begins_with COLON after ≡ false → has_lock text ≡ false
lock-none text after h none = ap (begins_with COLON) (known-head text after h).after_is ∙ none

-- a lock
record IsLocked (text : List ℕ) (lock : List ℕ) (tail : List ℕ) : Type 0 where
  has : has_lock text ≡ true
  lock_is : lock_of text ≡ Some lock
  tail_is : after_lock text ≡ tail

locked : (text lock tail : List ℕ) → IsLockHead text (lock ++ tail) → IsValue lock tail → IsLocked text lock tail
locked text lock tail h value =
    let after = lock ++ tail in
    let k = known-head text (COLON ∷ (h.blanks ++ after)) h.head in
    let has : has_lock text ≡ true = ap (begins_with COLON) k.after_is in
    let part_is : lock_part text ≡ after = ap (λ xs. text_after run_places Run.Blanks (drop 1 xs)) k.after_is ∙ drop_at h.blanks after _ (sym (blanks-far h.blanks after h.apart)) in
    let r = value-read lock tail value in
    record {
      has = has;
      lock_is = cond-true (has_lock text) _ _ has ∙ ap (λ xs. Some (take (word_length xs) xs)) part_is ∙ ap Some (take_at lock tail _ (sym r.0));
      tail_is = ap (λ xs. drop (word_length xs) xs) part_is ∙ drop_at lock tail _ (sym r.0);
    }

pub lock-wanting : (text after : List ℕ) → IsHead text after → begins_with COLON after ≡ false → lock_of text ≡ None
lock-wanting text after h none = cond-false (has_lock text) _ _ (lock-none text after h none)

pub lock-read : (text lock tail : List ℕ) → IsLockHead text (lock ++ tail) → IsValue lock tail → lock_of text ≡ Some lock
lock-read text lock tail h value = (locked text lock tail h value).lock_is

-- what isn't understood
letters-run : (flags : List ℕ) → IsRun is_flag_or_blank 0 (take (far run_places Run.Letters flags) flags) (text_after run_places Run.Letters flags)
letters-run flags = run Run.Letters 0 flags

letters-far : (flags : List ℕ) → AreFlags flags → far run_places Run.Letters flags ≡ length flags
letters-far flags h =
    ap (far run_places Run.Letters) (sym (append-nil flags)) ∙ run-length Run.Letters 0 flags [] h

abbrev pub others : List ℕ → Bool
others flags = nat_lt (far run_places Run.Letters flags) (length flags)

flags-denied : (flags : List ℕ) → Denies (others flags) (AreFlags flags)
flags-denied flags = by (others flags) refl
  where
    all : others flags ≡ false → length flags ≤ far run_places Run.Letters flags
    all h = grind (arith, nat_tests)

    by : (b : Bool) → others flags ≡ b → Denies b (AreFlags flags)
    by true h = λ a. absurd (true-false (sym h ∙ ap (λ n. nat_lt n (length flags)) (letters-far flags a) ∙ (grind (arith, nat_tests))))
    by false h =
        subst (λ xs. IsRun is_flag_or_blank 0 xs []) (take_all (far run_places Run.Letters flags) flags (all h))
        (subst (λ xs. IsRun is_flag_or_blank 0 (take (far run_places Run.Letters flags) flags) xs) (drop_all (far run_places Run.Letters flags) flags (all h)) (letters-run flags))

quiet-denied : (tail : List ℕ) → Denies (not (ends_statement (text_after run_places Run.Blanks tail))) (IsQuiet tail)
quiet-denied tail = by (ends_statement (text_after run_places Run.Blanks tail)) refl
  where
    ends-is : (q : IsQuiet tail) → ends_statement (text_after run_places Run.Blanks tail) ≡ true
    ends-is q = ap (λ xs. ends_statement (text_after run_places Run.Blanks xs)) q.tail_is ∙ ap ends_statement (drop_at q.blanks q.rest _ (sym (blanks-far q.blanks q.rest q.apart))) ∙ q.ends

    by : (b : Bool) → ends_statement (text_after run_places Run.Blanks tail) ≡ b → Denies (not b) (IsQuiet tail)
    by true h = record {
      blanks = take (far run_places Run.Blanks tail) tail;
      rest = text_after run_places Run.Blanks tail;
      tail_is = sym (take-append-drop (far run_places Run.Blanks tail) tail);
      apart = blanks-run tail;
      ends = h;
    }
    by false h = λ q. absurd (true-false (sym (ends-is q) ∙ h))

both-denied : (a b : Bool) (P Q : Type 0) → Denies a P → Denies b Q → Denies (a || b) (P × Q)
both-denied true b P Q p q = λ h. p h.0
both-denied false true P Q p q = λ h. q h.1
both-denied false false P Q p q = (p, q)

pub denied-once : (a b : Bool) (P : Type 0) → Denies a P → Denies b P → a ≡ b
denied-once true true P p q = refl
denied-once true false P p q = absurd (p q)
denied-once false true P p q = absurd (q p)
denied-once false false P p q = refl

or-none : (b : Bool) → (b || false) ≡ b
or-none true = refl
or-none false = refl

junk-plain : (text after : List ℕ) (h : IsHead text after) → begins_with COLON after ≡ false → Denies (has_junk text) (AreFlags h.flags)
junk-plain text after h none =
    let e : has_junk text ≡ others h.flags =
    ap (λ b. others (flags_part text) || (b && not (ends_statement (text_after run_places Run.Blanks (after_lock text))))) (lock-none text after h none)
    ∙ or-none (others (flags_part text)) ∙ ap others (flags-read text after h) in
    subst (λ b. Denies b (AreFlags h.flags)) (sym e) (flags-denied h.flags)

junk-locked : (text lock tail : List ℕ) (h : IsLockHead text (lock ++ tail)) → IsValue lock tail → Denies (has_junk text) (AreFlags h.head.flags × IsQuiet tail)
junk-locked text lock tail h value =
    let l = locked text lock tail h value in
    let e : has_junk text ≡ (others h.head.flags || not (ends_statement (text_after run_places Run.Blanks tail))) =
    ap (λ b. others (flags_part text) || (b && not (ends_statement (text_after run_places Run.Blanks (after_lock text))))) l.has
    ∙ ap (λ xs. others xs || not (ends_statement (text_after run_places Run.Blanks (after_lock text)))) (flags-read text _ h.head)
    ∙ ap (λ xs. others h.head.flags || not (ends_statement (text_after run_places Run.Blanks xs))) l.tail_is in
    subst (λ b. Denies b (AreFlags h.head.flags × IsQuiet tail)) (sym e)
    (both-denied (others h.head.flags) (not (ends_statement (text_after run_places Run.Blanks tail))) (AreFlags h.head.flags) (IsQuiet tail) (flags-denied h.head.flags) (quiet-denied tail))

-- a text has one reading
pub record IsReadOnce (text : List ℕ) (flags : List ℕ) (lock : Option (List ℕ)) (junk : Bool) : Type 0 where
  pub flags_are : flags ≡ flags_part text
  pub lock_is : lock ≡ lock_of text
  pub junk_is : junk ≡ has_junk text

pub read-once : (text flags : List ℕ) (lock : Option (List ℕ)) (junk : Bool) → IsColonText text flags lock junk → IsReadOnce text flags lock junk
read-once text flags lock junk (Plain after head none flags_are lock_is denied) = record {
  flags_are = flags_are ∙ sym (flags-read text after head);
  lock_is = lock_is ∙ sym (lock-wanting text after head none);
  junk_is = denied-once junk (has_junk text) (AreFlags head.flags) (subst (λ xs. Denies junk (AreFlags xs)) flags_are denied) (junk-plain text after head none);
}
read-once text flags lock junk (Locked word tail head value flags_are lock_is denied) = record {
  flags_are = flags_are ∙ sym (flags-read text _ head.head);
  lock_is = lock_is ∙ sym (lock-read text word tail head value);
  junk_is = denied-once junk (has_junk text) (AreFlags head.head.flags × IsQuiet tail) (subst (λ xs. Denies junk (AreFlags xs × IsQuiet tail)) flags_are denied)
      (junk-locked text word tail head value);
}

-- runs where what follows is cut off
and-false : (b : Bool) → (b && false) ≡ false
and-false true = refl
and-false false = refl

last-of : (a j k : Bool) → (a || j || k) ≡ false → k ≡ false
last-of true j k e = true-false e
last-of false true k e = true-false e
last-of false false k e = e

-- what a byte is with nothing after it
alone : (a k : Bool) (byte : ℕ) (j : Bool) → (a || (nat_eq byte BACKSLASH && j) || k) ≡ false → (a || (nat_eq byte BACKSLASH && false) || k) ≡ false
alone a k byte j h = by a (nat_eq byte BACKSLASH) j k h
  where
    by : (a b j k : Bool) → (a || (b && j) || k) ≡ false → (a || (b && false) || k) ≡ false
    by true b j k h = h
    by false true true k h = true-false h
    by false true false k h = h
    by false false j k h = h

last-alone : (a k : Bool) (byte : ℕ) (j : Bool) → (nat_eq byte BACKSLASH && j) ≡ false → (a || (nat_eq byte BACKSLASH && j) || k) ≡ true
    → (a || (nat_eq byte BACKSLASH && false) || k) ≡ true
last-alone a k byte j e h = ap (λ x. a || x || k) (and-false (nat_eq byte BACKSLASH)) ∙ sym (ap (λ x. a || x || k) e) ∙ h

-- a run that ends here ends with no join
no-join-run : (allowed : ℕ → Bool) (byte : ℕ) (last : List ℕ) → IsRun allowed byte [] last → (nat_eq byte BACKSLASH && begins_with NEWLINE last) ≡ false
no-join-run allowed byte [] h = and-false (nat_eq byte BACKSLASH)
no-join-run allowed byte (next ∷ last) h = last-of (allowed next) (nat_eq next BACKSLASH && begins_with NEWLINE last) (nat_eq byte BACKSLASH && nat_eq next NEWLINE) h

no-join-words : (allowed : Bool → ℕ → Bool) (fresh : Bool) (byte : ℕ) (last : List ℕ) → AreWords allowed fresh byte [] last
    → (nat_eq byte BACKSLASH && begins_with NEWLINE last) ≡ false
no-join-words allowed fresh byte [] h = and-false (nat_eq byte BACKSLASH)
no-join-words allowed fresh byte (next ∷ last) h = last-of (allowed fresh next) (nat_eq next BACKSLASH && begins_with NEWLINE last) (nat_eq byte BACKSLASH && nat_eq next NEWLINE) h

pub run-cut : (allowed : ℕ → Bool) (before : ℕ) (text mid last : List ℕ) → IsRun allowed before text (mid ++ last) → IsRun allowed before text mid
run-cut allowed before [] [] last h = tt
run-cut allowed before [] (byte ∷ []) last h = alone (allowed byte) (nat_eq before BACKSLASH && nat_eq byte NEWLINE) byte (begins_with NEWLINE last) h
run-cut allowed before [] (byte ∷ (next ∷ mid)) last h = h
run-cut allowed before (byte ∷ []) [] last h =
    (last-alone (allowed byte) (nat_eq before BACKSLASH && nat_eq byte NEWLINE) byte (begins_with NEWLINE last) (no-join-run allowed byte last h.1) h.0, tt)
run-cut allowed before (byte ∷ []) (next ∷ mid) last h = (h.0, run-cut allowed byte [] (next ∷ mid) last h.1)
run-cut allowed before (byte ∷ (next ∷ text)) mid last h = (h.0, run-cut allowed byte (next ∷ text) mid last h.1)

words-cut : (allowed : Bool → ℕ → Bool) (fresh : Bool) (before : ℕ) (text mid last : List ℕ) → AreWords allowed fresh before text (mid ++ last)
    → AreWords allowed fresh before text mid
words-cut allowed fresh before [] [] last h = tt
words-cut allowed fresh before [] (byte ∷ []) last h = alone (allowed fresh byte) (nat_eq before BACKSLASH && nat_eq byte NEWLINE) byte (begins_with NEWLINE last) h
words-cut allowed fresh before [] (byte ∷ (next ∷ mid)) last h = h
words-cut allowed fresh before (byte ∷ []) [] last h =
    let after = cond (joins before byte last) fresh (is_blank_byte byte) in
    (last-alone (allowed fresh byte) (nat_eq before BACKSLASH && nat_eq byte NEWLINE) byte (begins_with NEWLINE last) (no-join-words allowed after byte last h.1) h.0, tt)
words-cut allowed fresh before (byte ∷ []) (next ∷ mid) last h = (h.0, words-cut allowed (cond (joins before byte (next ∷ (mid ++ last))) fresh (is_blank_byte byte)) byte [] (next ∷ mid) last h.1)
words-cut allowed fresh before (byte ∷ (next ∷ text)) mid last h = (h.0, words-cut allowed (cond (joins before byte (next ∷ (text ++ (mid ++ last)))) fresh (is_blank_byte byte)) byte (next ∷ text) mid last h.1)

-- the form of a colon line alone
head-cut : (text rest last : List ℕ) → IsHead (text ++ last) (rest ++ last) → IsHead text rest
head-cut text rest last h =
    let flagged : (h.flags ++ rest) ++ last ≡ h.flags ++ (rest ++ last) = append_assoc h.flags rest last in
    let alone_is : List ℕ = COLON ∷ (h.joins ++ (ZERO ∷ (h.flags ++ rest))) in
    let whole_is : text ++ last ≡ alone_is ++ last =
    h.text_is ∙ ap (λ xs. COLON ∷ (h.joins ++ (ZERO ∷ xs))) (sym flagged) ∙ ap (λ xs. COLON ∷ xs) (sym (append_assoc h.joins (ZERO ∷ (h.flags ++ rest)) last)) in
    let size : length text ≡ length alone_is = omega (arith, ap length whole_is, length-append text last, length-append alone_is last) in
    record {
      joins = h.joins;
      flags = h.flags;
      text_is = same-first text last alone_is last whole_is size;
      joined = run-cut in_join 0 h.joins (ZERO ∷ (h.flags ++ rest)) last (subst (λ xs. AreJoins 0 h.joins (ZERO ∷ xs)) (sym flagged) h.joined);
      flagged = words-cut in_flags false 0 h.flags rest last h.flagged;
    }

lock-cut : (text lock tail last : List ℕ) → IsLockHead (text ++ last) (lock ++ (tail ++ last)) → IsLockHead text (lock ++ tail)
lock-cut text lock tail last h =
    let after : (lock ++ tail) ++ last ≡ lock ++ (tail ++ last) = append_assoc lock tail last in
    let all : (COLON ∷ (h.blanks ++ (lock ++ tail))) ++ last ≡ COLON ∷ (h.blanks ++ (lock ++ (tail ++ last))) =
    ap (λ xs. COLON ∷ xs) (append_assoc h.blanks (lock ++ tail) last ∙ ap (λ xs. h.blanks ++ xs) after) in
    record {
      blanks = h.blanks;
      head = head-cut text (COLON ∷ (h.blanks ++ (lock ++ tail))) last (subst (λ xs. IsHead (text ++ last) xs) (sym all) h.head);
      apart = run-cut is_blank_byte 0 h.blanks (lock ++ tail) last (subst (λ xs. AreBlanks 0 h.blanks xs) (sym after) h.apart);
    }

-- a lock's text alone
hash-end : (last : List ℕ) → begins_with HASH last ≡ true → ends_line last ≡ true → ⊥
hash-end [] h e = no h
hash-end (byte ∷ bytes) h e = absurd (grind (arith, nat_tests))

hash-cut : (tail last : List ℕ) → ends_line last ≡ true → begins_with HASH (tail ++ last) ≡ true → begins_with HASH tail ≡ true
hash-cut [] last e h = absurd (hash-end last h e)
hash-cut (byte ∷ tail) last e h = h

begins-cut : (wanted : ℕ) (text last : List ℕ) → begins_with wanted (text ++ last) ≡ false → begins_with wanted text ≡ false
begins-cut wanted [] last h = refl
begins-cut wanted (byte ∷ text) last h = h

name-cut : (tail last : List ℕ) → ends_name (tail ++ last) ≡ true → ends_name tail ≡ true
name-cut [] last h = refl
name-cut (byte ∷ tail) last h = h

none-cut : (tail last : List ℕ) → tail ++ last ≡ [] → tail ≡ []
none-cut [] last h = refl
none-cut (byte ∷ tail) last h = cc

word-cut : (word tail last : List ℕ) → IsWord word (tail ++ last) → IsWord word tail
word-cut word tail last w = record {
  parts = w.parts;
  last = w.last;
  word_is = w.word_is;
  good = w.good;
  ends = elim w.ends [
    | inl e ↦ inl (e.0, name-cut tail last e.1)
    | inr e ↦ inr (e.0, none-cut tail last e.1)
  ];
}

value-cut : (lock tail last : List ℕ) → ends_line last ≡ true → IsValue lock (tail ++ last) → IsValue lock tail
value-cut lock tail last e (Empty none hash) = Empty none (hash-cut tail last e hash)
value-cut lock tail last e (Word hash w) =
    Word (begins-cut HASH (lock ++ tail) last (ap (begins_with HASH) (append_assoc lock tail last) ∙ hash)) (word-cut lock tail last w)

-- a colon line's text has the form
pub colon-some : (text last : List ℕ) → IsColonLine (text ++ last) last → IsColonText text (flags_part text) (lock_of text) (has_junk text)
colon-some text last (NoLock rest head none r) =
    let h = head-cut text rest last head in
    let none_here = begins-cut COLON rest last none in
    let flags_are = flags-read text rest h in
    Plain rest h none_here flags_are (lock-wanting text rest h none_here)
    (subst (λ xs. Denies (has_junk text) (AreFlags xs)) (sym flags_are) (junk-plain text rest h none_here))
colon-some text last (WithLock lock tail head value t) =
    let h = lock-cut text lock tail last head in
    let v = value-cut lock tail last t.rest.ends value in
    let flags_are = flags-read text _ h.head in
    Locked lock tail h v flags_are (lock-read text lock tail h v)
    (subst (λ xs. Denies (has_junk text) (AreFlags xs × IsQuiet tail)) (sym flags_are) (junk-locked text lock tail h v))
