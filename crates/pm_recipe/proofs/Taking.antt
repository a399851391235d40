-- What has a form of the language is what stands at the front of the text.
use Rattle.std.proofs.Common.{◌≡◌, ◌<◌, ◌≤◌, ℕ, Bool, true, false, not, ◌&&◌, ◌||◌, cond, nat_eq, nat_le, nat_lt, List, [], ◌∷◌, ◌++◌, refl, ap, sym, ◌∙◌, length, take, drop, arith, subst}
use Rattle.std.proofs.lemmas.List.{take-append-drop, take_at, drop_at, append-nil, length-take-le}
use Rattle.std.proofs.lemmas.Bool.{cond-true, cond-false}
use Rattle.std.proofs.lemmas.Bool.Decides.{nat_tests}
use Rattle.pm_bytes.specs.Letter.{is_blank_byte, is_name_start, is_space_byte}
use Rattle.pm_recipe.specs.Bytes.{begins_with}
use Rattle.pm_bytes.specs.Alphabet.{NEWLINE, HASH, STAR, OPEN_BRACE, CLOSE_BRACE, COLON, EQUALS, BAR, BANG, BACKSLASH}
use Rattle.pm_recipe.proofs.Left.{before-at}
use Rattle.pm_recipe.specs.declared.fronts.Situation.{Situation}
use Rattle.pm_recipe.specs.declared.fronts.Kind.{Kind}
use Rattle.pm_recipe.specs.declared.fronts.Kind.TheVariants as kind
use Rattle.pm_recipe.specs.Places.{far, passed, text_after}
use Rattle.pm_recipe.specs.declared.runs.Run.TheVariants as Run
use Rattle.pm_recipe.specs.declared.runs.UpTo.TheVariants as UpTo
use Rattle.pm_recipe.specs.declared.line_words.InFlags.TheVariants as InFlags
use Rattle.pm_recipe.specs.declared.line_words.InTail.TheVariants as InTail
use Rattle.pm_recipe.specs.Runs.{run_places, up_to_places}
use Rattle.pm_recipe.specs.LineWords.{flag_places, tail_places}
use Rattle.pm_recipe.specs.Colon.{word_length, is_unclosed, begins_recipe, has_lock, lock_part, after_lock, after_flags, behind_colon}
use Rattle.pm_recipe.specs.Front.{Front, front_of, piece, gap, whole_front, line_front, ends_name, behind_name, named, colon_front, opens, ends_line, after_equals, captures, capture, brace, most_blocks}
use Rattle.pm_recipe.specs.Words.{belongs, IsLine, AreBlanks, IsName, AreJoins, in_line}
use Rattle.pm_recipe.specs.Spells.{IsGap, IsMarked, IsOpened, IsNamed, IsSet, IsSetting, IsCapture, IsLoneName, IsHead, IsColonLine, HasForm}
use Rattle.pm_recipe.specs.Spells.IsGap.{Space, Join, Comment}
use Rattle.pm_recipe.specs.Spells.IsColonLine.{Plain, Locked}
use Rattle.pm_recipe.proofs.RunLengths.{run-length}
use Rattle.pm_recipe.proofs.WordRuns.{flags-length, rest-length, tail-length, line-ends, true-false}
use Rattle.pm_recipe.proofs.Worded.{value-read}
use Rattle.pm_recipe.proofs.Forms.{equal, no, blanks-run, within}

-- spans with the same name, text and end
pub same-piece : (kind : Kind) (name name' text text' behind behind' : List ℕ) → name ≡ name' → text ≡ text' → behind ≡ behind'
    → piece kind name text behind ≡ piece kind name' text' behind'
same-piece kind name name' text text' behind behind' n t b =
    ap (λ xs. piece kind xs text behind) n ∙ ap (λ xs. piece kind name' xs behind) t ∙ ap (λ xs. piece kind name' text' xs) b

-- how far readers come at the runs
pub line-far : (text behind : List ℕ) → IsLine 0 text behind → far run_places Run.Line (text ++ behind) ≡ length text
line-far text behind h = run-length Run.Line 0 text behind h

pub blanks-far : (text behind : List ℕ) → AreBlanks 0 text behind → far run_places Run.Blanks (text ++ behind) ≡ length text
blanks-far text behind h = run-length Run.Blanks 0 text behind h

pub name-far : (text behind : List ℕ) → IsName text behind → far run_places Run.Name (text ++ behind) ≡ length text
name-far text behind h = run-length Run.Name 0 text behind h

pub joins-far : (text behind : List ℕ) → AreJoins 0 text behind → far run_places Run.Joins (text ++ behind) ≡ length text
joins-far text behind h = run-length Run.Joins 0 text behind h

-- what a name, an `=` and blanks are to the readers
pub record Known (name : List ℕ) (text : List ℕ) (value : List ℕ) : Type 0 where
  pub name_is : passed run_places Run.Name text ≡ name
  pub equals : begins_with EQUALS (behind_name text) ≡ true
  pub value_is : after_equals text ≡ value

pub known : (name text value : List ℕ) → IsSet name text value → Known name text value
known name text value s =
    let after = s.indent ++ value in
    let rest = s.blanks ++ (EQUALS ∷ after) in
    let n = name-far name rest s.named.reaches in
    let rest_is : text_after run_places Run.Name (name ++ rest) ≡ rest = drop_at name rest _ (sym n) in
    let b = blanks-far s.blanks (EQUALS ∷ after) s.apart in
    let equals_is : behind_name (name ++ rest) ≡ EQUALS ∷ after = ap (text_after run_places Run.Blanks) rest_is ∙ drop_at s.blanks (EQUALS ∷ after) _ (sym b) in
    let i = blanks-far s.indent value s.indented in
    subst (λ t. Known name t value) (sym s.text_is) (record {
      name_is = take_at name rest _ (sym n);
      equals = ap (begins_with EQUALS) equals_is;
      value_is = ap (λ xs. text_after run_places Run.Blanks (drop 1 xs)) equals_is ∙ drop_at s.indent value _ (sym i);
    })

-- a byte that begins a name is no other
space-name : (byte : ℕ) → is_name_start byte ≡ true → is_space_byte byte ≡ false
space-name byte h = grind (arith, nat_tests)

pub other-name : (byte other : ℕ) → is_name_start byte ≡ true → is_name_start other ≡ false → nat_eq byte other ≡ false
other-name byte other h i = by (nat_eq byte other) refl
  where
    by : (b : Bool) → nat_eq byte other ≡ b → nat_eq byte other ≡ false
    by true e = true-false (sym h ∙ ap is_name_start (equal byte other e) ∙ i)
    by false e = e

pub name-statement : (situation : Situation) (byte : ℕ) (bytes : List ℕ) → situation.in_recipe ≡ false → is_name_start byte ≡ true
    → front_of situation (byte ∷ bytes) ≡ named (byte ∷ bytes)
name-statement situation byte bytes here start =
    cond-false (is_space_byte byte) _ _ (space-name byte start)
    ∙ cond-false (nat_eq byte BACKSLASH && begins_with 10 bytes) _ _ (ap (λ b. b && begins_with 10 bytes) (other-name byte BACKSLASH start refl))
    ∙ cond-false (nat_eq byte HASH) _ _ (other-name byte HASH start refl)
    ∙ cond-false (situation.in_recipe && not (nat_eq byte CLOSE_BRACE || nat_eq byte COLON)) _ _ (ap (λ b. b && not (nat_eq byte CLOSE_BRACE || nat_eq byte COLON)) here)
    ∙ cond-false (nat_eq byte CLOSE_BRACE && nat_lt 0 situation.depth) _ _ (ap (λ b. b && nat_lt 0 situation.depth) (other-name byte CLOSE_BRACE start refl))
    ∙ cond-false (begins_recipe (byte ∷ bytes)) _ _ (ap (λ b. b && begins_with 48 (text_after run_places Run.Joins bytes)) (other-name byte COLON start refl))
    ∙ cond-true (is_name_start byte) _ _ start

pub name-recipe : (situation : Situation) (byte : ℕ) (bytes : List ℕ) → situation.in_recipe ≡ true → is_name_start byte ≡ true → captures (byte ∷ bytes) ≡ true
    → front_of situation (byte ∷ bytes)
    ≡ capture (byte ∷ bytes)
name-recipe situation byte bytes here start h =
    cond-false (is_space_byte byte) _ _ (space-name byte start)
    ∙ cond-false (nat_eq byte BACKSLASH && begins_with 10 bytes) _ _ (ap (λ b. b && begins_with 10 bytes) (other-name byte BACKSLASH start refl))
    ∙ cond-false (nat_eq byte HASH) _ _ (other-name byte HASH start refl)
    ∙ cond-true (situation.in_recipe && not (nat_eq byte CLOSE_BRACE || nat_eq byte COLON)) _ _
    (ap (λ b. b && not (nat_eq byte CLOSE_BRACE || nat_eq byte COLON)) here ∙ ap (λ b. not (b || nat_eq byte COLON)) (other-name byte CLOSE_BRACE start refl)
    ∙ ap not (other-name byte COLON start refl))
    ∙ cond-false (nat_eq byte STAR) _ _ (other-name byte STAR start refl)
    ∙ cond-false (nat_eq byte OPEN_BRACE && opens bytes) _ _ (ap (λ b. b && opens bytes) (other-name byte OPEN_BRACE start refl))
    ∙ cond-false (nat_eq byte BANG) _ _ (other-name byte BANG start refl)
    ∙ cond-false (nat_eq byte BAR) _ _ (other-name byte BAR start refl)
    ∙ cond-true (is_name_start byte && captures (byte ∷ bytes)) _ _ (ap (λ b. b && captures (byte ∷ bytes)) start ∙ h)

-- at a name the text begins with the name's first byte
named-front : (name behind whole rest : List ℕ) (front : List ℕ → Front) (f : Front) (n : IsNamed name behind) → whole ≡ name ++ rest
    → ((bytes : List ℕ) → whole ≡ n.first ∷ bytes → front (n.first ∷ bytes) ≡ f) → front whole ≡ f
named-front name behind whole rest front f n is h =
    let e : whole ≡ n.first ∷ (n.others ++ rest) = is ∙ ap (λ xs. xs ++ rest) n.name_is in
    ap front e ∙ h (n.others ++ rest) e

-- an assignment
setting-taken : (situation : Situation) (name text bytes last : List ℕ) → situation.in_recipe ≡ false → IsSetting name text bytes last
    → front_of situation (bytes ++ last) ≡ piece kind.Assign name text last
setting-taken situation name text bytes last here s =
    let whole = bytes ++ last in
    let k = known name whole (text ++ last) s.set in
    let r = value-read text last s.value in
    named-front name _ whole _ (λ t. front_of situation t) (named whole) s.set.named s.set.text_is
    (λ rest e. name-statement situation s.set.named.first rest here s.set.named.begins ∙ ap named (sym e))
    ∙ cond-true (begins_with EQUALS (behind_name whole)) _ _ k.equals
    ∙ cond-false (is_unclosed (after_equals whole)) _ _ (ap is_unclosed k.value_is ∙ r.1)
    ∙ same-piece kind.Assign _ name _ text _ last k.name_is
    (ap (λ xs. take (word_length xs) xs) k.value_is ∙ take_at text last _ (sym r.0))
    (ap (λ xs. drop (word_length xs) xs) k.value_is ∙ drop_at text last _ (sym r.0))

-- a capture
capture-taken : (situation : Situation) (name text bytes last : List ℕ) → situation.in_recipe ≡ true → IsCapture name text bytes last
    → front_of situation (bytes ++ last) ≡ piece kind.Capture name text last
capture-taken situation name text bytes last here s =
    let whole = bytes ++ last in
    let k = known name whole (BAR ∷ (text ++ last)) s.set in
    let line_is : drop 1 (after_equals whole) ≡ text ++ last = ap (drop 1) k.value_is in
    let captured : captures whole ≡ true = ap (λ b. b && begins_with BAR (after_equals whole)) k.equals ∙ ap (begins_with BAR) k.value_is in
    named-front name _ whole _ (λ t. front_of situation t) (capture whole) s.set.named s.set.text_is
    (λ rest e. name-recipe situation s.set.named.first rest here s.set.named.begins (ap captures (sym e) ∙ captured) ∙ ap capture (sym e))
    ∙ same-piece kind.Capture _ name _ text _ last k.name_is
    (ap (passed run_places Run.Line) line_is ∙ take_at text last _ (sym (line-far text last s.line)))
    (ap (text_after run_places Run.Line) line_is ∙ drop_at text last _ (sym (line-far text last s.line)))

-- a name alone
lone-taken : (situation : Situation) (name text bytes last : List ℕ) → situation.in_recipe ≡ false → text ≡ [] → IsLoneName name bytes last
    → front_of situation (bytes ++ last) ≡ piece kind.Unset name text last
lone-taken situation name text bytes last here none s =
    let whole = bytes ++ last in
    let is : whole ≡ name ++ last = ap (λ xs. xs ++ last) s.bytes_are in
    let n = name-far name last s.named.reaches in
    let last_is : text_after run_places Run.Name whole ≡ last = ap (text_after run_places Run.Name) is ∙ drop_at name last _ (sym n) in
    named-front name _ whole last (λ t. front_of situation t) (named whole) s.named is
    (λ rest e. name-statement situation s.named.first rest here s.named.begins ∙ ap named (sym e))
    ∙ cond-false (begins_with EQUALS (behind_name whole)) _ _ (alone whole last is last_is s)
    ∙ cond-true (ends_name (text_after run_places Run.Name whole)) _ _ (ap ends_name last_is ∙ s.ends)
    ∙ same-piece kind.Unset _ name _ text _ last (ap (passed run_places Run.Name) is ∙ take_at name last _ (sym n)) (sym none) last_is
  where
    begins-cons : (wanted : ℕ) (xs : List ℕ) → begins_with wanted xs ≡ true → xs ≡ wanted ∷ drop 1 xs
    begins-cons wanted [] h = no h
    begins-cons wanted (x ∷ xs) h = ap (λ b. b ∷ xs) (equal x wanted h)

    alone : (whole after : List ℕ) → whole ≡ name ++ after → text_after run_places Run.Name whole ≡ after → IsLoneName name bytes after → begins_with EQUALS (behind_name whole) ≡ false
    alone whole after is after_is s = by (begins_with EQUALS (behind_name whole)) refl
      where
        by : (b : Bool) → begins_with EQUALS (behind_name whole) ≡ b → begins_with EQUALS (behind_name whole) ≡ false
        by true e =
            let rest = behind_name whole in
            let value = drop 1 rest in
            let ind = far run_places Run.Blanks value in
            let bl = far run_places Run.Blanks after in
            let rest_is : text_after run_places Run.Blanks after ≡ EQUALS ∷ value = ap (text_after run_places Run.Blanks) (sym after_is) ∙ begins-cons EQUALS rest e in
            let value_is : take ind value ++ text_after run_places Run.Blanks value ≡ value = take-append-drop ind value in
            let equals_is : text_after run_places Run.Blanks after ≡ EQUALS ∷ (take ind value ++ text_after run_places Run.Blanks value) = rest_is ∙ ap (λ xs. EQUALS ∷ xs) (sym value_is) in
            let whole_is : after ≡ take bl after ++ (EQUALS ∷ (take ind value ++ text_after run_places Run.Blanks value)) =
            sym (take-append-drop bl after) ∙ ap (λ xs. take bl after ++ xs) equals_is in
            absurd (s.alone (text_after run_places Run.Blanks value) (record {
              blanks = take bl after;
              indent = take ind value;
              text_is = ap (λ xs. xs ++ after) s.bytes_are ∙ ap (λ xs. name ++ xs) whole_is;
              named = record {
                first = s.named.first;
                others = s.named.others;
                name_is = s.named.name_is;
                begins = s.named.begins;
                reaches = subst (λ xs. IsName name xs) whole_is s.named.reaches;
              };
              apart = subst (λ xs. AreBlanks 0 (take bl after) xs) equals_is (blanks-run after);
              indented = blanks-run value;
            }))
        by false e = e

-- a byte and a line
marked-taken : (situation : Situation) (mark : ℕ) (sort : Kind) (name text bytes last : List ℕ)
    → front_of situation (mark ∷ (text ++ last)) ≡ line_front sort (text ++ last) → name ≡ [] → IsMarked mark text bytes last
    → front_of situation (bytes ++ last) ≡ piece sort name text last
marked-taken situation mark sort name text bytes last is none m =
    let n = line-far text last m.line in
    ap (λ b. front_of situation (b ++ last)) m.bytes_are ∙ is
    ∙ same-piece sort _ name _ text _ last (sym none) (take_at text last _ (sym n)) (drop_at text last _ (sym n))

and-true : (b : Bool) → b ≡ true → (b && true) ≡ true
and-true b h = ap (λ x. x && true) h

and-false : (b : Bool) → (b && false) ≡ false
and-false true = refl
and-false false = refl

-- blanks up to a line's end are a line
blank-belongs : (before byte : ℕ) (bytes : List ℕ) → belongs is_blank_byte before byte bytes ≡ true → belongs in_line before byte bytes ≡ true
blank-belongs before byte bytes h = grind (arith, nat_tests)

end-belongs : (before byte : ℕ) (bytes : List ℕ) → nat_eq byte NEWLINE ≡ true → belongs is_blank_byte before byte bytes ≡ false → belongs in_line before byte bytes ≡ false
end-belongs before byte bytes e h =
    ap (λ b. not b || (nat_eq byte BACKSLASH && begins_with 10 bytes) || (nat_eq before BACKSLASH && b)) e
    ∙ sym (ap (λ b. false || (nat_eq byte BACKSLASH && begins_with 10 bytes) || (nat_eq before BACKSLASH && b)) e)
    ∙ drop-first (is_blank_byte byte) (nat_eq byte BACKSLASH && begins_with 10 bytes) (nat_eq before BACKSLASH && nat_eq byte NEWLINE) h
  where
    drop-first : (a j k : Bool) → (a || j || k) ≡ false → (false || j || k) ≡ false
    drop-first true j k h = true-false h
    drop-first false j k h = h

pub blank-line : (before : ℕ) (text last : List ℕ) → AreBlanks before text last → ends_line last ≡ true → IsLine before text last
blank-line before [] [] h e = tt
blank-line before [] (byte ∷ bytes) h e = end-belongs before byte bytes e h
blank-line before (byte ∷ text) last h e = (blank-belongs before byte (text ++ last) h.0, blank-line byte text last h.1 e)

pub blanks-are : (text last : List ℕ) → IsLine 0 text last → ends_line (text_after run_places Run.Blanks (text ++ last)) ≡ true → AreBlanks 0 text last
blanks-are text last line e =
    let whole = text ++ last in
    let n = far run_places Run.Blanks whole in
    let blanks = blanks-run whole in
    let as_line : far run_places Run.Line whole ≡ length (take n whole) =
    sym (ap (far run_places Run.Line) (take-append-drop n whole)) ∙ line-far (take n whole) (drop n whole) (blank-line 0 (take n whole) (drop n whole) blanks e) in
    let size : length (take n whole) ≡ n = length-take-le n whole (within run_places false Run.Blanks whole) in
    let n_is : n ≡ length text = sym size ∙ sym as_line ∙ line-far text last line in
    subst (λ xs. AreBlanks 0 text xs) (drop_at text last n (sym n_is)) (subst (λ xs. AreBlanks 0 xs (drop n whole)) (take_at text last n (sym n_is)) blanks)

bar-front : (situation : Situation) (text : List ℕ) → situation.in_recipe ≡ true
    → front_of situation (BAR ∷ text)
    ≡ cond (ends_line (text_after run_places Run.Blanks text)) (line_front kind.WriteOut text) (line_front kind.Pipe text)
bar-front situation text here = cond-true (situation.in_recipe && true) _ _ (and-true _ here)

-- a brace that opens a block
pub opened : (last : List ℕ) → IsOpened last → opens last ≡ true
opened last o =
    ap (λ xs. ends_name (text_after run_places Run.Joins xs)) o.behind_is
    ∙ ap ends_name (drop_at o.joins o.rest _ (sym (joins-far o.joins o.rest o.joined))) ∙ o.ends

open-front : (situation : Situation) (last : List ℕ) → situation.in_recipe ≡ true → opens last ≡ true
    → front_of situation (OPEN_BRACE ∷ last) ≡ brace (nat_le most_blocks situation.depth) (OPEN_BRACE ∷ last)
open-front situation last here o = cond-true (situation.in_recipe && true) _ _ (and-true _ here) ∙ cond-true (opens last) _ _ o

-- a colon line
pub record IsKnownHead (text : List ℕ) (after : List ℕ) : Type 0 where
  pub others : List ℕ
  pub text_is : text ≡ COLON ∷ others
  pub begins : begins_recipe text ≡ true
  pub after_is : after_flags text ≡ after

pub known-head : (text after : List ℕ) → IsHead text after → IsKnownHead text after
known-head text after h =
    let flagged = h.flags ++ after in
    let joins_is : text_after run_places Run.Joins (h.joins ++ (48 ∷ flagged)) ≡ 48 ∷ flagged =
    drop_at h.joins (48 ∷ flagged) _ (sym (joins-far h.joins (48 ∷ flagged) h.joined)) in
    subst (λ t. IsKnownHead t after) (sym h.text_is) (record {
      others = h.joins ++ (48 ∷ flagged);
      text_is = refl;
      begins = ap (begins_with 48) joins_is;
      after_is = ap (λ xs. text_after flag_places InFlags.Word (drop 1 xs)) joins_is ∙ drop_at h.flags after _ (sym (flags-length false 0 h.flags after h.flagged));
    })

colon-statement : (situation : Situation) (text after : List ℕ) → IsKnownHead text after → front_of situation text ≡ colon_front text
colon-statement situation text after h =
    ap (front_of situation) h.text_is
    ∙ cond-false (situation.in_recipe && false) _ _ (and-false situation.in_recipe)
    ∙ cond-true (begins_recipe (COLON ∷ h.others)) _ _ (ap begins_recipe (sym h.text_is) ∙ h.begins)
    ∙ ap colon_front (sym h.text_is)

colon-end : (text last : List ℕ) → IsColonLine text last
    → IsKnownHead text (after_flags text) × ((has_lock text && is_unclosed (lock_part text)) ≡ false) × (behind_colon text ≡ last)
colon-end text last (Plain rest head none r) =
    let k = known-head text (rest ++ last) head in
    let lock : has_lock text ≡ false = ap (begins_with COLON) k.after_is ∙ none in (
      known-head-self text (rest ++ last) k,
      ap (λ b. b && is_unclosed (lock_part text)) lock,
      cond-false (has_lock text) _ _ lock ∙ ap (text_after up_to_places UpTo.Newline) k.after_is ∙ drop_at rest last _ (sym (rest-length rest last r)),
    )
  where
    known-head-self : (text after : List ℕ) → IsKnownHead text after → IsKnownHead text (after_flags text)
    known-head-self text after k = record { others = k.others; text_is = k.text_is; begins = k.begins; after_is = refl }
colon-end text last (Locked lock tail h value t) =
    let after = lock ++ (tail ++ last) in
    let k = known-head text (COLON ∷ (h.blanks ++ after)) h.head in
    let has : has_lock text ≡ true = ap (begins_with COLON) k.after_is in
    let part_is : lock_part text ≡ after = ap (λ xs. text_after run_places Run.Blanks (drop 1 xs)) k.after_is ∙ drop_at h.blanks after _ (sym (blanks-far h.blanks after h.apart)) in
    let r = value-read lock (tail ++ last) value in
    let lock_is : after_lock text ≡ tail ++ last = ap (λ xs. drop (word_length xs) xs) part_is ∙ drop_at lock (tail ++ last) _ (sym r.0) in (
      record { others = k.others; text_is = k.text_is; begins = k.begins; after_is = refl },
      ap (λ b. b && is_unclosed (lock_part text)) has ∙ ap is_unclosed part_is ∙ r.1,
      cond-true (has_lock text) _ _ has ∙ ap (text_after tail_places InTail.Fresh) lock_is ∙ drop_at tail last _ (sym (tail-length true 0 tail last t)),
    )

colon-taken : (situation : Situation) (name text bytes last : List ℕ) → name ≡ [] → bytes ≡ text → IsColonLine (bytes ++ last) last
    → front_of situation (bytes ++ last) ≡ piece kind.Colon name text last
colon-taken situation name text bytes last none is line =
    let whole = bytes ++ last in
    let e = colon-end whole last line in
    colon-statement situation whole (after_flags whole) e.0 ∙ cond-false (has_lock whole && is_unclosed (lock_part whole)) _ _ e.1
    ∙ ap (λ xs. whole_front kind.Colon whole xs) e.2 ∙ same-piece kind.Colon _ name _ text last last (sym none) (before-at bytes last ∙ is) refl

gap-taken : (situation : Situation) (name text bytes last : List ℕ) → name ≡ [] → text ≡ [] → IsGap bytes last
    → front_of situation (bytes ++ last) ≡ piece kind.Gap name text last
gap-taken situation name text bytes last none empty g = by g ∙ same-piece kind.Gap _ name _ text last last (sym none) (sym empty) refl
  where
    by : IsGap bytes last → front_of situation (bytes ++ last) ≡ gap last
    by (Space byte is space) = ap (λ b. front_of situation (b ++ last)) is ∙ cond-true (is_space_byte byte) (gap last) _ space
    by (Join is) = ap (λ b. front_of situation (b ++ last)) is
    by (Comment rest is h) = ap (λ b. front_of situation (b ++ last)) is ∙ ap gap (drop_at rest last _ (sym (rest-length rest last h)))

-- each form
pub taken : (situation : Situation) (sort : Kind) (name text bytes last : List ℕ) → HasForm situation sort name text bytes last
    → front_of situation (bytes ++ last) ≡ piece sort name text last
taken situation kind.Gap name text bytes last h = gap-taken situation name text bytes last h.0 h.1 h.2
taken situation kind.Condition name text bytes last h =
    marked-taken situation STAR kind.Condition name text bytes last (cond-true (situation.in_recipe && true) _ _ (and-true _ h.0)) h.1 h.2
taken situation kind.Forward name text bytes last h =
    marked-taken situation BANG kind.Forward name text bytes last (cond-true (situation.in_recipe && true) _ _ (and-true _ h.0)) h.1 h.2
taken situation kind.Pipe name text bytes last h =
    marked-taken situation BAR kind.Pipe name text bytes last
    (bar-front situation (text ++ last) h.0 ∙ cond-false (ends_line (text_after run_places Run.Blanks (text ++ last))) _ _ (other (ends_line (text_after run_places Run.Blanks (text ++ last))) refl)) h.1 h.2
  where
    other : (b : Bool) → ends_line (text_after run_places Run.Blanks (text ++ last)) ≡ b → b ≡ false
    other true e = absurd (h.3 (blanks-are text last h.2.line e))
    other false e = refl
taken situation kind.WriteOut name text bytes last h =
    marked-taken situation BAR kind.WriteOut name text bytes last
    (bar-front situation (text ++ last) h.0 ∙ cond-true (ends_line (text_after run_places Run.Blanks (text ++ last))) _ _
    (ap ends_line (drop_at text last _ (sym (blanks-far text last h.3))) ∙ line-ends 0 text last h.2.line)) h.1 h.2
taken situation kind.Capture name text bytes last h = capture-taken situation name text bytes last h.0 h.1
taken situation kind.Open name text bytes last h =
    ap (λ b. front_of situation (b ++ last)) h.3 ∙ open-front situation last h.0 (opened last h.4) ∙ cond-false (nat_le 1000 situation.depth) _ _ (shallow h.5)
    ∙ same-piece kind.Open _ name _ text last last (sym h.1) (sym h.2) refl
  where
    shallow : situation.depth < 1000 → nat_le 1000 situation.depth ≡ false
    shallow h = grind (arith, nat_tests)
taken situation kind.TooDeep name text bytes last h =
    let rest = h.3 in
    let whole : bytes ++ last ≡ OPEN_BRACE ∷ rest = ap (λ xs. bytes ++ xs) h.6 ∙ append-nil bytes ∙ h.4 in
    ap (front_of situation) whole ∙ open-front situation rest h.0 (opened rest h.5) ∙ cond-true (nat_le 1000 situation.depth) _ _ (deep h.7)
    ∙ same-piece kind.TooDeep _ name _ text _ last (sym h.1) (sym h.2) (sym h.6)
  where
    deep : 1000 ≤ situation.depth → nat_le 1000 situation.depth ≡ true
    deep h = grind (arith, nat_tests)
taken situation kind.Close name text bytes last h =
    ap (λ b. front_of situation (b ++ last)) h.3 ∙ cond-false (situation.in_recipe && false) _ _ (and-false situation.in_recipe)
    ∙ cond-true (nat_lt 0 situation.depth) _ _ (deep h.0)
    ∙ same-piece kind.Close _ name _ text last last (sym h.1) (sym h.2) refl
  where
    deep : 0 < situation.depth → nat_lt 0 situation.depth ≡ true
    deep h = grind (arith, nat_tests)
taken situation kind.Colon name text bytes last h = colon-taken situation name text bytes last h.0 h.1 h.2
taken situation kind.Assign name text bytes last h = setting-taken situation name text bytes last h.0 h.1
taken situation kind.Unset name text bytes last h = lone-taken situation name text bytes last h.0 h.1 h.2
taken situation kind.Mailbox name text bytes last h = absurd h
taken situation kind.Skipped name text bytes last h = absurd h
