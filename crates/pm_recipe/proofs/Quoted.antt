-- A reader of words comes as far as a word goes, and no quote is open there.
use Rattle.std.proofs.Common.{◌≡◌, ◌+◌, ℕ, Bool, true, false, not, ◌&&◌, cond, nat_eq, List, [], ◌∷◌, ◌++◌, refl, ap, sym, ◌∙◌, length, arith}
use Rattle.pm_bytes.specs.Letter.{is_space_byte}
use Rattle.pm_recipe.specs.Bytes.{begins_with}
use Rattle.pm_bytes.specs.Alphabet.{NEWLINE, SINGLE_QUOTE, DOUBLE_QUOTE, BACKQUOTE, BACKSLASH}
use Rattle.pm_recipe.specs.Places.{Places, reach_of, rest_of}
use Rattle.pm_recipe.specs.declared.words.InWord.{InWord}
use Rattle.pm_recipe.specs.WordPlaces.{word_ends, word_after, word_places}
use Rattle.pm_recipe.specs.Quotes.{Mark, Inner, Part, marks_text, inners_text, word_text, are_marks, are_inners, are_single, are_parts}
use Rattle.pm_recipe.proofs.Forms.{and-left, and-right}

-- from one place at a text a reader comes to another at the rest of it
pub record Goes {Place : Type 0} (places : Places Place) (first : Place) (text : List ℕ) (second : Place) (rest : List ℕ) : Type 0 where
  pub count : ℕ
  pub length_is : length text ≡ count + length rest
  pub far_is : reach_of places false first text ≡ count + reach_of places false second rest
  pub place_is : rest_of places false first text ≡ rest_of places false second rest

module _ {Place : Type 0} {places : Places Place} where
  pub none-gone : (first : Place) (text : List ℕ) → Goes places first text first text
  none-gone first text = record { count = 0; length_is = omega arith; far_is = omega arith; place_is = refl }

  pub on : (first second third : Place) (text rest last : List ℕ) → Goes places first text second rest → Goes places second rest third last → Goes places first text third last
  on first second third text rest last g h = record {
    count = g.count + h.count;
    length_is = omega (arith, g.length_is, h.length_is);
    far_is = omega (arith, g.far_is, h.far_is);
    place_is = g.place_is ∙ h.place_is;
  }

  -- one byte further
  pub byte-on : (first second : Place) (byte : ℕ) (rest : List ℕ) → places.joins first ≡ false → places.ends first byte ≡ false → places.after first byte ≡ second
      → Goes places first (byte ∷ rest) second rest
  byte-on first second byte rest join ends after =
      let joining : Bool → Bool = λ j. j && nat_eq byte BACKSLASH && begins_with NEWLINE rest in
      record {
        count = 1;
        length_is = omega arith;
        far_is = ap (λ j. cond (not (joining j) && places.ends first byte) 0 (reach_of places (joining j && true) (cond (joining j) first (places.after first byte)) rest + 1)) join
            ∙ ap (λ e. cond e 0 (reach_of places false (places.after first byte) rest + 1)) ends ∙ ap (λ p. reach_of places false p rest + 1) after ∙ omega arith;
        place_is = ap (λ j. cond (not (joining j) && places.ends first byte) first (rest_of places (joining j && true) (cond (joining j) first (places.after first byte)) rest)) join
            ∙ ap (λ e. cond e first (rest_of places false (places.after first byte) rest)) ends ∙ ap (λ p. rest_of places false p rest) after;
      }

-- a backslash outside quotes, and the byte after it
pub taken-on : (byte : ℕ) (rest : List ℕ) → Goes word_places InWord.Plain (BACKSLASH ∷ (byte ∷ rest)) InWord.Plain rest
taken-on byte rest =
    on InWord.Plain InWord.Escaped InWord.Plain _ (byte ∷ rest) rest (byte-on InWord.Plain InWord.Escaped BACKSLASH (byte ∷ rest) refl refl refl)
    (byte-on InWord.Escaped InWord.Plain byte rest refl refl refl)

pub is-false : (b : Bool) → not b ≡ true → b ≡ false
is-false false h = refl
is-false true h = sym h

-- a byte of a word
pub plain-on : (byte : ℕ) (rest : List ℕ) → is_space_byte byte ≡ false → nat_eq byte BACKSLASH ≡ false → nat_eq byte SINGLE_QUOTE ≡ false → nat_eq byte DOUBLE_QUOTE ≡ false
    → nat_eq byte BACKQUOTE ≡ false → Goes word_places InWord.Plain (byte ∷ rest) InWord.Plain rest
plain-on byte rest space backslash single double backquote =
    byte-on InWord.Plain InWord.Plain byte rest refl space
    (ap (λ b. cond b InWord.Escaped (cond (nat_eq byte SINGLE_QUOTE) InWord.Single (cond (nat_eq byte DOUBLE_QUOTE) InWord.Double (cond (nat_eq byte BACKQUOTE) InWord.Backquote InWord.Plain)))) backslash
    ∙ ap (λ b. cond b InWord.Single (cond (nat_eq byte DOUBLE_QUOTE) InWord.Double (cond (nat_eq byte BACKQUOTE) InWord.Backquote InWord.Plain))) single
    ∙ ap (λ b. cond b InWord.Double (cond (nat_eq byte BACKQUOTE) InWord.Backquote InWord.Plain)) double
    ∙ ap (λ b. cond b InWord.Backquote InWord.Plain) backquote)

-- marks up to the backquote that ends them
module _ (first escaped closed : InWord)
    (ends : (byte : ℕ) → word_ends first byte ≡ false) (ends_not : (byte : ℕ) → word_ends escaped byte ≡ false)
    (after : (byte : ℕ) → word_after first byte ≡ cond (nat_eq byte BACKSLASH) escaped (cond (nat_eq byte BACKQUOTE) closed first))
    (after_escaped : (byte : ℕ) → word_after escaped byte ≡ first) where
  pub marks-on : (marks : List Mark) (rest : List ℕ) → are_marks marks ≡ true → Goes word_places first (marks_text marks rest) closed rest
  marks-on [] rest good = byte-on first closed BACKQUOTE rest refl (ends BACKQUOTE) (after BACKQUOTE)
  marks-on (Mark.Plain byte ∷ marks) rest good =
      let backslash = is-false (nat_eq byte BACKSLASH) (and-left _ (not (nat_eq byte BACKQUOTE)) (and-left _ (are_marks marks) good)) in
      let backquote = is-false (nat_eq byte BACKQUOTE) (and-right (not (nat_eq byte BACKSLASH)) _ (and-left _ (are_marks marks) good)) in
      on first first closed _ (marks_text marks rest) rest
      (byte-on first first byte _ refl (ends byte)
      (after byte ∙ ap (λ b. cond b escaped (cond (nat_eq byte BACKQUOTE) closed first)) backslash ∙ ap (λ b. cond b closed first) backquote))
      (marks-on marks rest (and-right (not (nat_eq byte BACKSLASH) && not (nat_eq byte BACKQUOTE)) _ good))
  marks-on (Mark.Taken byte ∷ marks) rest good =
      on first escaped closed _ (byte ∷ marks_text marks rest) rest
      (byte-on first escaped BACKSLASH _ refl (ends BACKSLASH) (after BACKSLASH))
      (on escaped first closed _ (marks_text marks rest) rest
      (byte-on escaped first byte _ refl (ends_not byte) (after_escaped byte))
      (marks-on marks rest good))

pub command-on : (marks : List Mark) (rest : List ℕ) → are_marks marks ≡ true → Goes word_places InWord.Backquote (marks_text marks rest) InWord.Plain rest
command-on marks rest good =
    marks-on InWord.Backquote InWord.BackquoteEscaped InWord.Plain (λ b. refl) (λ b. refl) (λ b. refl) (λ b. refl) marks rest good

pub inner-command-on : (marks : List Mark) (rest : List ℕ) → are_marks marks ≡ true → Goes word_places InWord.Inner (marks_text marks rest) InWord.Double rest
inner-command-on marks rest good =
    marks-on InWord.Inner InWord.InnerEscaped InWord.Double (λ b. refl) (λ b. refl) (λ b. refl) (λ b. refl) marks rest good

-- a byte in double quotes
pub double-plain-on : (byte : ℕ) (rest : List ℕ) → nat_eq byte BACKSLASH ≡ false → nat_eq byte DOUBLE_QUOTE ≡ false → nat_eq byte BACKQUOTE ≡ false
    → Goes word_places InWord.Double (byte ∷ rest) InWord.Double rest
double-plain-on byte rest backslash double backquote =
    byte-on InWord.Double InWord.Double byte rest refl refl
    (ap (λ b. cond b InWord.DoubleEscaped (cond (nat_eq byte DOUBLE_QUOTE) InWord.Plain (cond (nat_eq byte BACKQUOTE) InWord.Inner InWord.Double))) backslash
    ∙ ap (λ b. cond b InWord.Plain (cond (nat_eq byte BACKQUOTE) InWord.Inner InWord.Double)) double
    ∙ ap (λ b. cond b InWord.Inner InWord.Double) backquote)

pub inners-on : (inners : List Inner) (rest : List ℕ) → are_inners inners ≡ true → Goes word_places InWord.Double (inners_text inners rest) InWord.Plain rest
inners-on [] rest good = byte-on InWord.Double InWord.Plain DOUBLE_QUOTE rest refl refl refl
inners-on (Inner.Plain byte ∷ inners) rest good =
    let three = and-left (not (nat_eq byte BACKSLASH) && not (nat_eq byte DOUBLE_QUOTE) && not (nat_eq byte BACKQUOTE)) (are_inners inners) good in
    let two = and-left (not (nat_eq byte BACKSLASH) && not (nat_eq byte DOUBLE_QUOTE)) (not (nat_eq byte BACKQUOTE)) three in
    on InWord.Double InWord.Double InWord.Plain _ (inners_text inners rest) rest
    (double-plain-on byte _ (is-false _ (and-left (not (nat_eq byte BACKSLASH)) (not (nat_eq byte DOUBLE_QUOTE)) two))
    (is-false _ (and-right (not (nat_eq byte BACKSLASH)) (not (nat_eq byte DOUBLE_QUOTE)) two))
    (is-false _ (and-right (not (nat_eq byte BACKSLASH) && not (nat_eq byte DOUBLE_QUOTE)) (not (nat_eq byte BACKQUOTE)) three)))
    (inners-on inners rest (and-right (not (nat_eq byte BACKSLASH) && not (nat_eq byte DOUBLE_QUOTE) && not (nat_eq byte BACKQUOTE)) (are_inners inners) good))
inners-on (Inner.Taken byte ∷ inners) rest good =
    on InWord.Double InWord.DoubleEscaped InWord.Plain _ (byte ∷ inners_text inners rest) rest (byte-on InWord.Double InWord.DoubleEscaped BACKSLASH _ refl refl refl)
    (on InWord.DoubleEscaped InWord.Double InWord.Plain _ (inners_text inners rest) rest (byte-on InWord.DoubleEscaped InWord.Double byte _ refl refl refl) (inners-on inners rest good))
inners-on (Inner.Command marks ∷ inners) rest good =
    on InWord.Double InWord.Inner InWord.Plain _ (marks_text marks (inners_text inners rest)) rest (byte-on InWord.Double InWord.Inner BACKQUOTE _ refl refl refl)
    (on InWord.Inner InWord.Double InWord.Plain _ (inners_text inners rest) rest (inner-command-on marks _ (and-left _ (are_inners inners) good))
    (inners-on inners rest (and-right (are_marks marks) _ good)))

pub single-on : (bytes rest : List ℕ) → are_single bytes ≡ true → Goes word_places InWord.Single (bytes ++ (SINGLE_QUOTE ∷ rest)) InWord.Plain rest
single-on [] rest good = byte-on InWord.Single InWord.Plain SINGLE_QUOTE rest refl refl refl
single-on (byte ∷ bytes) rest good =
    on InWord.Single InWord.Single InWord.Plain _ (bytes ++ (SINGLE_QUOTE ∷ rest)) rest
    (byte-on InWord.Single InWord.Single byte _ refl refl (ap (λ b. cond b InWord.Plain InWord.Single) (is-false _ (and-left _ (are_single bytes) good))))
    (single-on bytes rest (and-right (not (nat_eq byte SINGLE_QUOTE)) _ good))

pub word-on : (parts : List Part) (rest : List ℕ) → are_parts parts ≡ true → Goes word_places InWord.Plain (word_text parts rest) InWord.Plain rest
word-on [] rest good = none-gone InWord.Plain rest
word-on (Part.Plain byte ∷ parts) rest good =
    let a = not (is_space_byte byte) in
    let b = not (nat_eq byte BACKSLASH) in
    let c = not (nat_eq byte SINGLE_QUOTE) in
    let d = not (nat_eq byte DOUBLE_QUOTE) in
    let e = not (nat_eq byte BACKQUOTE) in
    let five = and-left (a && b && c && d && e) (are_parts parts) good in
    let four = and-left (a && b && c && d) e five in
    let three = and-left (a && b && c) d four in
    let two = and-left (a && b) c three in
    on InWord.Plain InWord.Plain InWord.Plain _ (word_text parts rest) rest
    (plain-on byte _ (is-false _ (and-left a b two)) (is-false _ (and-right a b two)) (is-false _ (and-right (a && b) c three))
    (is-false _ (and-right (a && b && c) d four)) (is-false _ (and-right (a && b && c && d) e five)))
    (word-on parts rest (and-right (a && b && c && d && e) (are_parts parts) good))
word-on (Part.Taken byte ∷ parts) rest good = on InWord.Plain InWord.Plain InWord.Plain _ (word_text parts rest) rest (taken-on byte _) (word-on parts rest good)
word-on (Part.Single bytes ∷ parts) rest good =
    on InWord.Plain InWord.Single InWord.Plain _ (bytes ++ (SINGLE_QUOTE ∷ word_text parts rest)) rest (byte-on InWord.Plain InWord.Single SINGLE_QUOTE _ refl refl refl)
    (on InWord.Single InWord.Plain InWord.Plain _ (word_text parts rest) rest (single-on bytes _ (and-left _ (are_parts parts) good))
    (word-on parts rest (and-right (are_single bytes) _ good)))
word-on (Part.Double inners ∷ parts) rest good =
    on InWord.Plain InWord.Double InWord.Plain _ (inners_text inners (word_text parts rest)) rest (byte-on InWord.Plain InWord.Double DOUBLE_QUOTE _ refl refl refl)
    (on InWord.Double InWord.Plain InWord.Plain _ (word_text parts rest) rest (inners-on inners _ (and-left _ (are_parts parts) good))
    (word-on parts rest (and-right (are_inners inners) _ good)))
word-on (Part.Command marks ∷ parts) rest good =
    on InWord.Plain InWord.Backquote InWord.Plain _ (marks_text marks (word_text parts rest)) rest (byte-on InWord.Plain InWord.Backquote BACKQUOTE _ refl refl refl)
    (on InWord.Backquote InWord.Plain InWord.Plain _ (word_text parts rest) rest (command-on marks _ (and-left _ (are_parts parts) good))
    (word-on parts rest (and-right (are_marks marks) _ good)))
