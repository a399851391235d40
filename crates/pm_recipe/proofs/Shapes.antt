-- What stands at the front of a text is spelled as its kind is.
use Rattle.std.proofs.Common.{◌≡◌, ◌-◌, ◌<◌, ◌≤◌, ℕ, suc, Bool, true, false, not, ◌&&◌, ◌||◌, cond, nat_eq, nat_le, nat_lt, List, [], ◌∷◌, ◌++◌, refl, ap, sym, ◌∙◌, length, take, drop, arith, subst}
use Rattle.std.proofs.lemmas.List.{take-append-drop, drop_at, take_all, drop_all}
use Rattle.std.proofs.lemmas.Bool.{cond_both}
use Rattle.std.proofs.lemmas.Bool.Decides.{nat_tests}
use Rattle.pm_bytes.specs.Letter.{is_blank_byte, is_digit_byte, is_name_byte, is_name_start, is_space_byte}
use Rattle.pm_recipe.specs.Bytes.{begins_with}
use Rattle.pm_bytes.specs.Alphabet.{NEWLINE, HASH, STAR, OPEN_BRACE, CLOSE_BRACE, COLON, EQUALS, BAR, BANG, BACKSLASH}
use Rattle.pm_recipe.proofs.Left.{IsLeft, left-self, left-drop, left-of, left-more, before-drop, before-left}
use Rattle.pm_recipe.specs.declared.fronts.Situation.{Situation}
use Rattle.pm_recipe.specs.declared.fronts.Kind.{Kind}
use Rattle.pm_recipe.specs.declared.fronts.Kind.TheVariants as kind
use Rattle.pm_recipe.specs.Places.{reach_of, far, passed, text_after}
use Rattle.pm_recipe.specs.declared.runs.Run.TheVariants as Run
use Rattle.pm_recipe.specs.declared.runs.UpTo.TheVariants as UpTo
use Rattle.pm_recipe.specs.declared.line_words.InFlags.TheVariants as InFlags
use Rattle.pm_recipe.specs.declared.line_words.InTail.TheVariants as InTail
use Rattle.pm_recipe.specs.Runs.{run_places, up_to_places}
use Rattle.pm_recipe.specs.LineWords.{flag_places, tail_places}
use Rattle.pm_recipe.specs.Colon.{word_length, is_unclosed, begins_recipe, has_lock, lock_part, after_lock, after_flags, behind_colon}
use Rattle.pm_recipe.specs.Front.{Front, before, front_of, piece, gap, whole_front, line_front, ends_name, behind_name, named, statement_of, opens, ends_line, after_equals, captures, capture, other_action, brace, recipe_line, most_blocks}
use Rattle.pm_recipe.specs.Words.{belongs, IsRun, AreBlanks, IsName, AreJoins, in_line}
use Rattle.pm_recipe.specs.Quotes.{IsValue}
use Rattle.pm_recipe.specs.Spells.{IsMarked, IsOpened, IsNamed, IsSet, IsHead, IsLockHead, IsColonLine, HasForm, HasNone, IsBroken, IsUnclosed, IsMailbox, IsJunk, Spells}
use Rattle.pm_recipe.specs.Spells.IsBroken.{Value, Lock}
use Rattle.pm_recipe.specs.Spells.IsSkipped.{Broken, Other}
use Rattle.pm_recipe.specs.Spells.IsGap.{Space, Join, Comment}
use Rattle.pm_recipe.specs.Spells.IsColonLine.{Plain, Locked}
use Rattle.pm_recipe.proofs.RunLengths.{run, go}
use Rattle.pm_recipe.proofs.WordRuns.{flags-run, tail-run, true-false, line-ends}
use Rattle.pm_recipe.proofs.Worded.{value-read, read-value}
use Rattle.pm_recipe.proofs.Forms.{equal, and-left, and-right, line-run, blanks-run, name-run, joins-run, begins-cons, rest-run}
use Rattle.pm_recipe.proofs.Taking.{taken, known, known-head, other-name, blanks-are, blanks-far}

-- what a span is apart from what has no form
abbrev pub Shape : Situation → Kind → List ℕ → List ℕ → List ℕ → List ℕ → Type 0
Shape situation kind.Mailbox name text bytes last = IsMailbox situation name text bytes last
Shape situation kind.Skipped name text bytes last = IsJunk situation name text bytes last
Shape situation sort name text bytes last = HasForm situation sort name text bytes last

-- something stands before what a front leaves, and has its kind's shape
abbrev pub Stands : Situation → List ℕ → Front → Type 0
Stands situation text front =
    IsLeft front.behind (drop 1 text) × Shape situation front.kind front.name front.text (before text front.behind) front.behind

or-right : (a b : Bool) → (a || b) ≡ false → b ≡ false
or-right true b h = true-false h
or-right false b h = h

-- a byte and others
marked : (Q : List ℕ → Type 0) (n byte : ℕ) (bytes : List ℕ) → Q (byte ∷ take n bytes) → Q (before (byte ∷ bytes) (drop n bytes))
marked Q n byte bytes h = subst Q (sym (before-drop (suc n) (byte ∷ bytes))) h

mark-line : (mark byte : ℕ) (bytes : List ℕ) → nat_eq byte mark ≡ true
    → IsMarked mark (take (far run_places Run.Line bytes) bytes) (byte ∷ take (far run_places Run.Line bytes) bytes) (drop (far run_places Run.Line bytes) bytes)
mark-line mark byte bytes h = record { bytes_are = ap (λ b. b ∷ take (far run_places Run.Line bytes) bytes) (equal byte mark h); line = line-run bytes }

mailbox-stands : (situation : Situation) (byte : ℕ) (bytes : List ℕ) → (situation.in_recipe && not (nat_eq byte CLOSE_BRACE || nat_eq byte COLON)) ≡ true
    → is_space_byte byte ≡ false → (nat_eq byte BACKSLASH && begins_with 10 bytes) ≡ false
    → Stands situation (byte ∷ bytes) (whole_front kind.Mailbox (byte ∷ bytes) (text_after run_places Run.Line bytes))
mailbox-stands situation byte bytes here space join =
    let n = far run_places Run.Line bytes in
    let r : IsRun in_line byte (take n bytes) (drop n bytes) =
    subst (λ j. IsRun in_line byte (take (reach_of run_places j Run.Line bytes) bytes) (drop (reach_of run_places j Run.Line bytes) bytes)) join
    (run Run.Line byte bytes) in
    let first : belongs in_line 0 byte (take n bytes ++ drop n bytes) ≡ true =
    ap (λ b. not b || (nat_eq byte BACKSLASH && begins_with 10 (take n bytes ++ drop n bytes)) || false) (or-right (is_blank_byte byte) (nat_eq byte NEWLINE) space) in
    (left-of n bytes, marked (λ t. IsMailbox situation [] t t (drop n bytes)) n byte bytes (here, refl, refl, (first, r)))

-- what isn't understood
broken-stands : (situation : Situation) (byte : ℕ) (bytes : List ℕ) → (situation.in_recipe && not (nat_eq byte CLOSE_BRACE || nat_eq byte COLON)) ≡ false
    → IsBroken (byte ∷ bytes) → Stands situation (byte ∷ bytes) (whole_front kind.Skipped (byte ∷ bytes) (text_after up_to_places UpTo.Newline bytes))
broken-stands situation byte bytes here broken =
    let n = far up_to_places UpTo.Newline bytes in
    let again : IsBroken (byte ∷ (take n bytes ++ drop n bytes)) = subst (λ xs. IsBroken (byte ∷ xs)) (sym (take-append-drop n bytes)) broken in
    (left-of n bytes, marked (λ t. IsJunk situation [] t t (drop n bytes)) n byte bytes (here, refl, refl, Broken byte (take n bytes) refl (rest-run bytes) again))

other-stands : (situation : Situation) (byte : ℕ) (bytes : List ℕ) → (situation.in_recipe && not (nat_eq byte CLOSE_BRACE || nat_eq byte COLON)) ≡ false
    → (IsBroken (byte ∷ bytes) → ⊥) → Stands situation (byte ∷ bytes) (whole_front kind.Skipped (byte ∷ bytes) (text_after tail_places InTail.Word bytes))
other-stands situation byte bytes here sound =
    let n = far tail_places InTail.Word bytes in
    let again : IsBroken (byte ∷ (take n bytes ++ drop n bytes)) → ⊥ = λ b. sound (subst (λ xs. IsBroken (byte ∷ xs)) (take-append-drop n bytes) b) in
    (left-of n bytes, marked (λ t. IsJunk situation [] t t (drop n bytes)) n byte bytes (here, refl, refl, Other byte (take n bytes) refl (tail-run false 0 bytes) again))

unclosed-is : (text : List ℕ) → is_unclosed text ≡ true → IsUnclosed text
unclosed-is text h word last is value = true-false (sym h ∙ ap is_unclosed is ∙ (value-read word last value).1)

-- what follows a colon line is left of what follows its colon
colon-left : (byte : ℕ) (bytes : List ℕ) → IsLeft (behind_colon (byte ∷ bytes)) bytes
colon-left byte bytes =
    let zero_left = left-drop 1 _ bytes (left-drop (far run_places Run.Joins bytes) bytes bytes (left-self bytes)) in
    let flags_left = left-drop (far flag_places InFlags.Word (drop 1 (text_after run_places Run.Joins bytes))) _ bytes zero_left in
    let lock_left = left-drop (far run_places Run.Blanks (drop 1 (after_flags (byte ∷ bytes)))) _ bytes (left-drop 1 _ bytes flags_left) in
    let after_left = left-drop (word_length (lock_part (byte ∷ bytes))) _ bytes lock_left in
    cond_both (has_lock (byte ∷ bytes)) (text_after tail_places InTail.Fresh (after_lock (byte ∷ bytes))) (text_after up_to_places UpTo.Newline (after_flags (byte ∷ bytes)))
    (λ xs. IsLeft xs bytes) (λ h. left-drop _ _ bytes after_left) (λ h. left-drop _ _ bytes flags_left)

-- a colon line
head-of : (byte : ℕ) (bytes : List ℕ) → begins_recipe (byte ∷ bytes) ≡ true → IsHead (byte ∷ bytes) (after_flags (byte ∷ bytes))
head-of byte bytes h =
    let zeroed = text_after run_places Run.Joins bytes in
    let after = drop 1 zeroed in
    let flags = take (far flag_places InFlags.Word after) after in
    let last = text_after flag_places InFlags.Word after in
    let after_is : flags ++ last ≡ after = take-append-drop (far flag_places InFlags.Word after) after in
    let zero_is : 48 ∷ (flags ++ last) ≡ zeroed = ap (λ xs. 48 ∷ xs) after_is ∙ sym (begins-cons 48 zeroed (and-right (nat_eq byte COLON) _ h)) in
    record {
      joins = take (far run_places Run.Joins bytes) bytes;
      flags = flags;
      text_is = ap (λ b. b ∷ bytes) (equal byte COLON (and-left _ (begins_with 48 zeroed) h))
          ∙ ap (λ xs. COLON ∷ xs) (sym (ap (λ xs. take (far run_places Run.Joins bytes) bytes ++ xs) zero_is ∙ take-append-drop (far run_places Run.Joins bytes) bytes));
      joined = subst (λ xs. AreJoins 0 (take (far run_places Run.Joins bytes) bytes) xs) (sym zero_is) (joins-run bytes);
      flagged = flags-run false 0 after;
    }

lock-head-of : (byte : ℕ) (bytes : List ℕ) → begins_recipe (byte ∷ bytes) ≡ true → has_lock (byte ∷ bytes) ≡ true → IsLockHead (byte ∷ bytes) (lock_part (byte ∷ bytes))
lock-head-of byte bytes h lock =
    let flagless = after_flags (byte ∷ bytes) in
    let after = drop 1 flagless in
    let blanks = take (far run_places Run.Blanks after) after in
    let is : flagless ≡ COLON ∷ (blanks ++ text_after run_places Run.Blanks after) =
    begins-cons COLON flagless lock ∙ ap (λ xs. COLON ∷ xs) (sym (take-append-drop (far run_places Run.Blanks after) after)) in
    record { blanks = blanks; head = subst (λ xs. IsHead (byte ∷ bytes) xs) is (head-of byte bytes h); apart = blanks-run after }

line-of : (byte : ℕ) (bytes : List ℕ) → begins_recipe (byte ∷ bytes) ≡ true → (has_lock (byte ∷ bytes) && is_unclosed (lock_part (byte ∷ bytes))) ≡ false
    → IsColonLine (byte ∷ bytes) (behind_colon (byte ∷ bytes))
line-of byte bytes h closed = by (has_lock (byte ∷ bytes)) refl
  where
    by : (b : Bool) → has_lock (byte ∷ bytes) ≡ b → IsColonLine (byte ∷ bytes) (cond b (text_after tail_places InTail.Fresh (after_lock (byte ∷ bytes))) (text_after up_to_places UpTo.Newline (after_flags (byte ∷ bytes))))
    by true e =
        let part = lock_part (byte ∷ bytes) in
        let lock = take (word_length part) part in
        let after = drop (word_length part) part in
        let tail = take (far tail_places InTail.Fresh after) after in
        let last = text_after tail_places InTail.Fresh after in
        let after_is : after ≡ tail ++ last = sym (take-append-drop (far tail_places InTail.Fresh after) after) in
        let part_is : part ≡ lock ++ (tail ++ last) = sym (take-append-drop (word_length part) part) ∙ ap (λ xs. lock ++ xs) after_is in
        Locked lock tail (subst (λ xs. IsLockHead (byte ∷ bytes) xs) part_is (lock-head-of byte bytes h e))
        (subst (λ xs. IsValue lock xs) after_is (read-value part (ap (λ b. b && is_unclosed part) (sym e) ∙ closed)))
        (tail-run true 0 after)
    by false e =
        let flagless = after_flags (byte ∷ bytes) in
        let rest = take (far up_to_places UpTo.Newline flagless) flagless in
        let is : flagless ≡ rest ++ text_after up_to_places UpTo.Newline flagless = sym (take-append-drop (far up_to_places UpTo.Newline flagless) flagless) in
        Plain rest (subst (λ xs. IsHead (byte ∷ bytes) xs) is (head-of byte bytes h)) (ap (begins_with COLON) (sym is) ∙ e) (rest-run flagless)

colon-stands : (situation : Situation) (byte : ℕ) (bytes : List ℕ) → begins_recipe (byte ∷ bytes) ≡ true
    → (has_lock (byte ∷ bytes) && is_unclosed (lock_part (byte ∷ bytes))) ≡ false
    → Stands situation (byte ∷ bytes) (whole_front kind.Colon (byte ∷ bytes) (behind_colon (byte ∷ bytes)))
colon-stands situation byte bytes h closed =
    let text : List ℕ = byte ∷ bytes in
    let last = behind_colon text in
    let left = colon-left byte bytes in
    let whole_is : before text last ++ last ≡ text = before-left last text (left-more last byte bytes left) in
    (left, (refl, refl, subst (λ xs. IsColonLine xs last) (sym whole_is) (line-of byte bytes h closed)))

-- a name at a byte that begins one
named-at : (byte : ℕ) (bytes last : List ℕ) → is_name_start byte ≡ true → last ≡ drop (far run_places Run.Name (byte ∷ bytes)) (byte ∷ bytes)
    → IsNamed (take (far run_places Run.Name (byte ∷ bytes)) (byte ∷ bytes)) last
named-at byte bytes last start last_is =
    let first : belongs is_name_byte 0 byte bytes ≡ true = ap (λ b. b || is_digit_byte byte || (nat_eq byte BACKSLASH && begins_with 10 bytes) || false) start in
    let goes : far run_places Run.Name (byte ∷ bytes) ≡ suc (reach_of run_places (nat_eq byte BACKSLASH && begins_with 10 bytes) Run.Name bytes) =
    go Run.Name 0 byte bytes first in
    record {
      first = byte;
      others = take (reach_of run_places (nat_eq byte BACKSLASH && begins_with 10 bytes) Run.Name bytes) bytes;
      name_is = ap (λ k. take k (byte ∷ bytes)) goes;
      begins = start;
      reaches = subst (λ xs. IsName (take (far run_places Run.Name (byte ∷ bytes)) (byte ∷ bytes)) xs) (sym last_is) (name-run (byte ∷ bytes));
    }

name-left : (byte : ℕ) (bytes : List ℕ) → is_name_start byte ≡ true → IsLeft (text_after run_places Run.Name (byte ∷ bytes)) bytes
name-left byte bytes start =
    let first : belongs is_name_byte 0 byte bytes ≡ true = ap (λ b. b || is_digit_byte byte || (nat_eq byte BACKSLASH && begins_with 10 bytes) || false) start in
    record {
      count = reach_of run_places (nat_eq byte BACKSLASH && begins_with 10 bytes) Run.Name bytes;
      left_is = ap (λ k. drop k (byte ∷ bytes)) (go Run.Name 0 byte bytes first);
    }

value-left : (byte : ℕ) (bytes : List ℕ) → is_name_start byte ≡ true → IsLeft (after_equals (byte ∷ bytes)) bytes
value-left byte bytes start = left-drop _ _ bytes (left-drop 1 _ bytes (left-drop _ _ bytes (name-left byte bytes start)))

-- a name and an `=`
set-of : (byte : ℕ) (bytes : List ℕ) → is_name_start byte ≡ true → begins_with EQUALS (behind_name (byte ∷ bytes)) ≡ true
    → IsSet (take (far run_places Run.Name (byte ∷ bytes)) (byte ∷ bytes)) (byte ∷ bytes) (text_after run_places Run.Blanks (drop 1 (behind_name (byte ∷ bytes))))
set-of byte bytes start equals =
    let text : List ℕ = byte ∷ bytes in
    let na = far run_places Run.Name text in
    let rest = text_after run_places Run.Name text in
    let bl = far run_places Run.Blanks rest in
    let at_equals = text_after run_places Run.Blanks rest in
    let after = drop 1 at_equals in
    let ind = far run_places Run.Blanks after in
    let value = text_after run_places Run.Blanks after in
    let after_is : take ind after ++ value ≡ after = take-append-drop ind after in
    let equals_is : EQUALS ∷ (take ind after ++ value) ≡ at_equals = ap (λ xs. EQUALS ∷ xs) after_is ∙ sym (begins-cons EQUALS at_equals equals) in
    let rest_is : take bl rest ++ (EQUALS ∷ (take ind after ++ value)) ≡ rest = ap (λ xs. take bl rest ++ xs) equals_is ∙ take-append-drop bl rest in
    record {
      blanks = take bl rest;
      indent = take ind after;
      text_is = sym (ap (λ xs. take na text ++ xs) rest_is ∙ take-append-drop na text);
      named = named-at byte bytes _ start rest_is;
      apart = subst (λ xs. AreBlanks 0 (take bl rest) xs) (sym equals_is) (blanks-run rest);
      indented = blanks-run after;
    }

-- an assignment, where the value's quotes are closed
setting : (situation : Situation) (byte : ℕ) (bytes : List ℕ) → situation.in_recipe ≡ false → is_name_start byte ≡ true
    → begins_with EQUALS (behind_name (byte ∷ bytes)) ≡ true → is_unclosed (after_equals (byte ∷ bytes)) ≡ false
    → Stands situation (byte ∷ bytes)
    (let value = after_equals (byte ∷ bytes) in
    piece kind.Assign (passed run_places Run.Name (byte ∷ bytes)) (take (word_length value) value) (drop (word_length value) value))
setting situation byte bytes here start equals closed =
    let text : List ℕ = byte ∷ bytes in
    let value = after_equals text in
    let wl = word_length value in
    let last = drop wl value in
    let name = passed run_places Run.Name text in
    let left = left-drop wl value bytes (value-left byte bytes start) in
    let whole_is : before text last ++ last ≡ text = before-left last text (left-more last byte bytes left) in (
      left,
      (
        here,
        record {
          set = subst (λ xs. IsSet name (before text last ++ last) xs) (sym (take-append-drop wl value))
              (subst (λ xs. IsSet name xs value) (sym whole_is) (set-of byte bytes start equals));
          value = read-value value closed;
        },
      ),
    )

-- a capture
captured : (situation : Situation) (byte : ℕ) (bytes : List ℕ) → situation.in_recipe ≡ true → is_name_start byte ≡ true
    → captures (byte ∷ bytes) ≡ true → Stands situation (byte ∷ bytes) (capture (byte ∷ bytes))
captured situation byte bytes here start h =
    let text : List ℕ = byte ∷ bytes in
    let equals : begins_with EQUALS (behind_name text) ≡ true = and-left _ (begins_with BAR (after_equals text)) h in
    let bar : begins_with BAR (after_equals text) ≡ true = and-right (begins_with EQUALS (behind_name text)) _ h in
    let line = drop 1 (after_equals text) in
    let last = text_after run_places Run.Line line in
    let name = passed run_places Run.Name text in
    let left = left-drop _ line bytes (left-drop 1 _ bytes (value-left byte bytes start)) in
    let whole_is : before text last ++ last ≡ text = before-left last text (left-more last byte bytes left) in
    let bar_is : after_equals text ≡ BAR ∷ (passed run_places Run.Line line ++ last) =
    begins-cons BAR (after_equals text) bar ∙ ap (λ xs. BAR ∷ xs) (sym (take-append-drop (far run_places Run.Line line) line)) in (
      left,
      (
        here,
        record {
          set = subst (λ xs. IsSet name (before text last ++ last) xs) bar_is (subst (λ xs. IsSet name xs (after_equals text)) (sym whole_is) (set-of byte bytes start equals));
          line = line-run line;
        },
      ),
    )

-- a byte that begins a name begins no colon line
no-lock : {A : Type 0} (byte : ℕ) (bytes lock : List ℕ) → is_name_start byte ≡ true → IsLockHead (byte ∷ bytes) lock → A
no-lock byte bytes lock start h =
    true-false (sym (and-left _ (begins_with 48 (text_after run_places Run.Joins bytes)) (known-head (byte ∷ bytes) _ h.head).begins) ∙ other-name byte COLON start refl)

-- a name at the front
named-stands : (situation : Situation) (byte : ℕ) (bytes : List ℕ) → situation.in_recipe ≡ false → is_name_start byte ≡ true
    → Stands situation (byte ∷ bytes) (named (byte ∷ bytes))
named-stands situation byte bytes here start =
    let text : List ℕ = byte ∷ bytes in
    let outside : (situation.in_recipe && not (nat_eq byte CLOSE_BRACE || nat_eq byte COLON)) ≡ false = ap (λ b. b && not (nat_eq byte CLOSE_BRACE || nat_eq byte COLON)) here in
    let value = after_equals text in
    cond_both (begins_with EQUALS (behind_name text)) _ _ (Stands situation text)
    (λ equals. cond_both (is_unclosed value) _ _ (Stands situation text)
    (λ h. broken-stands situation byte bytes outside (Value _ value (set-of byte bytes start equals) (unclosed-is value h)))
    (λ h. setting situation byte bytes here start equals h))
    (λ h. cond_both (ends_name (text_after run_places Run.Name text)) _ _ (Stands situation text)
    (λ ends. (
      name-left byte bytes start,
      (
        here,
        refl,
        record {
          bytes_are = before-drop (far run_places Run.Name text) text;
          named = named-at byte bytes _ start refl;
          ends = ends;
          alone = λ after set. true-false (sym (known _ _ after set).equals
              ∙ ap (λ xs. begins_with EQUALS (behind_name xs)) (before-left _ text (left-of (far run_places Run.Name text) text)) ∙ h);
        },
      ),
    ))
    (λ e. other-stands situation byte bytes outside (sound h)))
  where
    sound : begins_with EQUALS (behind_name (byte ∷ bytes)) ≡ false → IsBroken (byte ∷ bytes) → ⊥
    sound h (Value name after set u) = true-false (sym (known name (byte ∷ bytes) after set).equals ∙ h)
    sound h (Lock lock head u) = no-lock byte bytes lock start head

no-brace : (byte : ℕ) → is_name_start byte ≡ true → (nat_eq byte CLOSE_BRACE || nat_eq byte COLON) ≡ false
no-brace byte h = grind (arith, nat_tests)

-- a statement at its first byte
statement-stands : (situation : Situation) (byte : ℕ) (bytes : List ℕ)
    → (situation.in_recipe && not (nat_eq byte CLOSE_BRACE || nat_eq byte COLON)) ≡ false
    → Stands situation (byte ∷ bytes) (statement_of (nat_lt 0 situation.depth) (byte ∷ bytes))
statement-stands situation byte bytes here =
    let text : List ℕ = byte ∷ bytes in
    cond_both (nat_eq byte CLOSE_BRACE && nat_lt 0 situation.depth) _ _ (Stands situation text)
    (λ h. (
      left-self bytes,
      (
        deep (and-right (nat_eq byte CLOSE_BRACE) _ h),
        refl,
        ap (λ b. b ∷ []) (equal byte CLOSE_BRACE (and-left _ (nat_lt 0 situation.depth) h)),
        before-drop 1 text ∙ ap (λ b. b ∷ []) (equal byte CLOSE_BRACE (and-left _ (nat_lt 0 situation.depth) h)),
      ),
    ))
    (λ h. cond_both (begins_recipe text) _ _ (Stands situation text)
    (λ begins. cond_both (has_lock text && is_unclosed (lock_part text)) _ _ (Stands situation text)
    (λ e. broken-stands situation byte bytes here (Lock (lock_part text) (lock-head-of byte bytes begins (and-left _ (is_unclosed (lock_part text)) e))
    (unclosed-is (lock_part text) (and-right (has_lock text) _ e))))
    (λ e. colon-stands situation byte bytes begins e))
    (λ e. cond_both (is_name_start byte) _ _ (Stands situation text)
    (λ start. named-stands situation byte bytes (outside start) start) (λ f. other-stands situation byte bytes here (sound e f))))
  where
    deep : nat_lt 0 situation.depth ≡ true → 0 < situation.depth
    deep h = grind (arith, nat_tests)

    and-true : (b : Bool) → (b && true) ≡ false → b ≡ false
    and-true true h = h
    and-true false h = refl

    outside : is_name_start byte ≡ true → situation.in_recipe ≡ false
    outside start = and-true situation.in_recipe (ap (λ b. situation.in_recipe && not b) (sym (no-brace byte start)) ∙ here)

    first-is : (x y : ℕ) (xs ys : List ℕ) → (x ∷ xs) ≡ (y ∷ ys) → x ≡ y
    first-is x y xs ys e = ap head e
      where
        head : List ℕ → ℕ
        head [] = 0
        head (z ∷ zs) = z

    sound : begins_recipe (byte ∷ bytes) ≡ false → is_name_start byte ≡ false → IsBroken (byte ∷ bytes) → ⊥
    sound e f (Value name after set u) =
        let rest = set.blanks ++ (EQUALS ∷ (set.indent ++ after)) in
        let is : byte ≡ set.named.first = first-is byte set.named.first bytes (set.named.others ++ rest) (set.text_is ∙ ap (λ xs. xs ++ rest) set.named.name_is) in
        true-false (sym set.named.begins ∙ ap is_name_start (sym is) ∙ f)
    sound e f (Lock lock head u) = true-false (sym (known-head (byte ∷ bytes) _ head.head).begins ∙ e)

-- a brace
brace-stands : (situation : Situation) (byte : ℕ) (bytes : List ℕ) → situation.in_recipe ≡ true → (nat_eq byte OPEN_BRACE && opens bytes) ≡ true
    → Stands situation (byte ∷ bytes) (brace (nat_le most_blocks situation.depth) (byte ∷ bytes))
brace-stands situation byte bytes here h =
    let text : List ℕ = byte ∷ bytes in
    let byte_is : byte ≡ OPEN_BRACE = equal byte OPEN_BRACE (and-left _ (opens bytes) h) in
    let o : IsOpened bytes = record {
      joins = take (far run_places Run.Joins bytes) bytes;
      rest = text_after run_places Run.Joins bytes;
      behind_is = sym (take-append-drop (far run_places Run.Joins bytes) bytes);
      joined = joins-run bytes;
      ends = and-right (nat_eq byte OPEN_BRACE) _ h;
    } in
    cond_both (nat_le most_blocks situation.depth) _ _ (Stands situation text)
    (λ e. (
      record { count = length bytes; left_is = sym (drop_all (length bytes) bytes (omega arith)) },
      (
        here,
        refl,
        ap (λ b. b ∷ []) byte_is,
        bytes,
        take_all (length text - 0) text (omega arith) ∙ ap (λ b. b ∷ bytes) byte_is,
        o,
        refl,
        deep e,
      ),
    ))
    (λ e. (left-self bytes, (here, refl, ap (λ b. b ∷ []) byte_is, before-drop 1 text ∙ ap (λ b. b ∷ []) byte_is, o, shallow e)))
  where
    deep : nat_le 1000 situation.depth ≡ true → 1000 ≤ situation.depth
    deep h = grind (arith, nat_tests)

    shallow : nat_le 1000 situation.depth ≡ false → situation.depth < 1000
    shallow h = grind (arith, nat_tests)

-- a bar and a line
bar-stands : (situation : Situation) (byte : ℕ) (bytes : List ℕ) → situation.in_recipe ≡ true → nat_eq byte BAR ≡ true
    → Stands situation (byte ∷ bytes) (cond (ends_line (text_after run_places Run.Blanks bytes)) (line_front kind.WriteOut bytes) (line_front kind.Pipe bytes))
bar-stands situation byte bytes here bar =
    let n = far run_places Run.Line bytes in
    let m = mark-line BAR byte bytes bar in
    let all : take n bytes ++ drop n bytes ≡ bytes = take-append-drop n bytes in
    cond_both (ends_line (text_after run_places Run.Blanks bytes)) _ _ (Stands situation (byte ∷ bytes))
    (λ e. (
      left-of n bytes,
      marked (λ b. HasForm situation kind.WriteOut [] (take n bytes) b (drop n bytes)) n byte bytes
          (here, refl, m, blanks-are (take n bytes) (drop n bytes) m.line (ap (λ xs. ends_line (text_after run_places Run.Blanks xs)) all ∙ e)),
    ))
    (λ e. (
      left-of n bytes,
      marked (λ b. HasForm situation kind.Pipe [] (take n bytes) b (drop n bytes)) n byte bytes (
        here,
        refl,
        m,
        λ blanks. true-false (sym (ap ends_line (drop_at (take n bytes) (drop n bytes) _ (sym (blanks-far (take n bytes) (drop n bytes) blanks)))
            ∙ line-ends 0 (take n bytes) (drop n bytes) m.line) ∙ ap (λ xs. ends_line (text_after run_places Run.Blanks xs)) all ∙ e),
      ),
    ))

-- an action that is no brace
action-stands : (situation : Situation) (byte : ℕ) (bytes : List ℕ) → (situation.in_recipe && not (nat_eq byte CLOSE_BRACE || nat_eq byte COLON)) ≡ true → is_space_byte byte ≡ false
    → (nat_eq byte BACKSLASH && begins_with 10 bytes) ≡ false
    → Stands situation (byte ∷ bytes)
    (cond (nat_eq byte BANG) (line_front kind.Forward bytes)
    (cond (nat_eq byte BAR) (cond (ends_line (text_after run_places Run.Blanks bytes)) (line_front kind.WriteOut bytes) (line_front kind.Pipe bytes)) (other_action (byte ∷ bytes))))
action-stands situation byte bytes on space join =
    let text : List ℕ = byte ∷ bytes in
    let here : situation.in_recipe ≡ true = and-left _ (not (nat_eq byte CLOSE_BRACE || nat_eq byte COLON)) on in
    let n = far run_places Run.Line bytes in
    cond_both (nat_eq byte BANG) _ _ (Stands situation text)
    (λ f. (left-of n bytes, marked (λ b. HasForm situation kind.Forward [] (take n bytes) b (drop n bytes)) n byte bytes (here, refl, mark-line BANG byte bytes f)))
    (λ f. cond_both (nat_eq byte BAR) _ _ (Stands situation text)
    (λ bar. bar-stands situation byte bytes here bar)
    (λ bar. cond_both (is_name_start byte && captures text) _ _ (Stands situation text)
    (λ i. captured situation byte bytes here (and-left _ (captures text) i) (and-right (is_name_start byte) _ i))
    (λ i. mailbox-stands situation byte bytes on space join)))

-- a line of a recipe
line-stands : (situation : Situation) (byte : ℕ) (bytes : List ℕ) → (situation.in_recipe && not (nat_eq byte CLOSE_BRACE || nat_eq byte COLON)) ≡ true → is_space_byte byte ≡ false
    → (nat_eq byte BACKSLASH && begins_with 10 bytes) ≡ false
    → Stands situation (byte ∷ bytes) (recipe_line (nat_le most_blocks situation.depth) (byte ∷ bytes))
line-stands situation byte bytes on space join =
    let text : List ℕ = byte ∷ bytes in
    let here : situation.in_recipe ≡ true = and-left _ (not (nat_eq byte CLOSE_BRACE || nat_eq byte COLON)) on in
    let n = far run_places Run.Line bytes in
    cond_both (nat_eq byte STAR) _ _ (Stands situation text)
    (λ h. (left-of n bytes, marked (λ b. HasForm situation kind.Condition [] (take n bytes) b (drop n bytes)) n byte bytes (here, refl, mark-line STAR byte bytes h)))
    (λ h. cond_both (nat_eq byte OPEN_BRACE && opens bytes) _ _ (Stands situation text)
    (λ e. brace-stands situation byte bytes here e)
    (λ e. action-stands situation byte bytes on space join))

-- what stands at the front
pub front-stands : (situation : Situation) (byte : ℕ) (bytes : List ℕ) → Stands situation (byte ∷ bytes) (front_of situation (byte ∷ bytes))
front-stands situation byte bytes =
    let text : List ℕ = byte ∷ bytes in
    cond_both (is_space_byte byte) _ _ (Stands situation text)
    (λ h. (left-self bytes, (refl, refl, Space byte (before-drop 1 text) h)))
    (λ space. cond_both (nat_eq byte BACKSLASH && begins_with 10 bytes) _ _ (Stands situation text)
    (λ h. (
      left-of 1 bytes,
      (
        refl,
        refl,
        Join (before-drop 2 text ∙ ap (λ b. b ∷ take 1 bytes) (equal byte BACKSLASH (and-left _ (begins_with 10 bytes) h))
            ∙ ap (λ xs. BACKSLASH ∷ take 1 xs) (begins-cons 10 bytes (and-right (nat_eq byte BACKSLASH) _ h))),
      ),
    ))
    (λ join. cond_both (nat_eq byte HASH) _ _ (Stands situation text)
    (λ h. comment h)
    (λ h. cond_both (situation.in_recipe && not (nat_eq byte CLOSE_BRACE || nat_eq byte COLON)) _ _ (Stands situation text)
    (λ e. line-stands situation byte bytes e space join)
    (λ e. statement-stands situation byte bytes e))))
  where
    comment : nat_eq byte HASH ≡ true → Stands situation (byte ∷ bytes) (gap (text_after up_to_places UpTo.Newline bytes))
    comment h =
        let n = far up_to_places UpTo.Newline bytes in (
          left-of n bytes,
          (refl, refl, Comment (take n bytes) (before-drop (suc n) (byte ∷ bytes) ∙ ap (λ b. b ∷ take n bytes) (equal byte HASH h)) (rest-run bytes)),
        )

-- and what has no form has none
pub front-spells : (situation : Situation) (byte : ℕ) (bytes : List ℕ) → (let front = front_of situation (byte ∷ bytes) in
    Spells situation front.kind front.name front.text (before (byte ∷ bytes) front.behind) front.behind)
front-spells situation byte bytes = by front.kind refl stands.1
  where
    text : List ℕ
    text = byte ∷ bytes

    front : Front
    front = front_of situation text

    stands : Stands situation text front
    stands = front-stands situation byte bytes

    whole-is : before text front.behind ++ front.behind ≡ text
    whole-is = before-left front.behind text (left-more front.behind byte bytes stands.0)

    none : (sort : Kind) → front.kind ≡ sort → ((name text' bytes' last : List ℕ) → HasForm situation sort name text' bytes' last → ⊥)
        → HasNone situation (before text front.behind ++ front.behind)
    none sort sort_is empty kind' name text' bytes' last whole form =
        let taken_is = taken situation kind' name text' bytes' last form in
        let same : kind' ≡ sort = sym (ap (λ f. f.kind) taken_is) ∙ ap (λ xs. (front_of situation xs).kind) (sym whole ∙ whole-is) ∙ sort_is in
        empty name text' bytes' last (subst (λ k. HasForm situation k name text' bytes' last) same form)

    by : (sort : Kind) → front.kind ≡ sort → Shape situation sort front.name front.text (before text front.behind) front.behind
        → Spells situation sort front.name front.text (before text front.behind) front.behind
    by kind.Mailbox e shape = (shape, none kind.Mailbox e (λ n t b r form. form))
    by kind.Skipped e shape = (shape, none kind.Skipped e (λ n t b r form. form))
    by kind.Gap e shape = shape
    by kind.Colon e shape = shape
    by kind.Condition e shape = shape
    by kind.Pipe e shape = shape
    by kind.WriteOut e shape = shape
    by kind.Capture e shape = shape
    by kind.Forward e shape = shape
    by kind.Open e shape = shape
    by kind.TooDeep e shape = shape
    by kind.Close e shape = shape
    by kind.Assign e shape = shape
    by kind.Unset e shape = shape
