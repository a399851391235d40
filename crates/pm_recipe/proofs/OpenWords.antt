-- Whether words leave a quote open, one byte further to the left.
use Rattle.std.proofs.Common.{◌≡◌, ◌+◌, ◌<◌, ◌≤◌, ℕ, Bool, true, false, cond, nat_eq, nat_lt, List, [], ◌∷◌, ◌++◌, refl, ap, sym, ◌∙◌, length, take, drop, get_or, arith, subst, length-append, append_assoc}
use Rattle.std.proofs.lemmas.List.{take-append-drop, drop_at, get_or_append_left, get_or_push}
use Rattle.std.proofs.lemmas.Bool.Decides.{nat_tests}
use Rattle.pm_bytes.specs.Alphabet.{SINGLE_QUOTE, DOUBLE_QUOTE, BACKQUOTE, BACKSLASH}
use Rattle.pm_bytes.specs.Letter.{is_space_byte}
use Rattle.pm_recipe.specs.declared.quotes.Opens.{Opens}
use Rattle.pm_recipe.specs.Places.{rest_of}
use Rattle.pm_recipe.specs.WordPlaces.{word_places, is_quote}
use Rattle.pm_recipe.specs.declared.words.InWord.TheVariants as InWord
use Rattle.pm_recipe.specs.Opens.{is_open, AreOpens, opens_before, word_before, Knows}
use Rattle.pm_recipe.specs.Colon.{lock_part, after_flags}
use Rattle.pm_recipe.proofs.Left.{IsLeft}
use Rattle.pm_recipe.specs.Front.{behind_name, after_equals}

-- a byte of a word
word-open : (byte : ℕ) (opens : Opens) (rest : List ℕ) → AreOpens opens rest → word_before byte opens ≡ is_open InWord.Plain (byte ∷ rest)
word-open byte opens rest o =
    by (is_space_byte byte) (nat_eq byte BACKSLASH) (nat_eq byte SINGLE_QUOTE) (nat_eq byte DOUBLE_QUOTE) (nat_eq byte BACKQUOTE)
  where
    by : (s x q d b : Bool)
        → cond s false (cond x opens.escaped (cond q opens.single (cond d opens.double (cond b opens.backquote opens.word))))
        ≡ is_quote (cond s InWord.Plain (rest_of word_places false
        (cond x InWord.Escaped (cond q InWord.Single (cond d InWord.Double (cond b InWord.Backquote InWord.Plain)))) rest))
    by true x q d b = refl
    by false true q d b = o.escaped
    by false false true d b = o.single
    by false false false true b = o.double
    by false false false false true = o.backquote
    by false false false false false = o.word

pub opens-more : (byte : ℕ) (opens : Opens) (rest : List ℕ) → AreOpens opens rest → AreOpens (opens_before byte opens) (byte ∷ rest)
opens-more byte opens rest o = record {
  word = word-open byte opens rest o;
  escaped = o.word;
  single = single (nat_eq byte SINGLE_QUOTE);
  double = double (nat_eq byte BACKSLASH) (nat_eq byte DOUBLE_QUOTE) (nat_eq byte BACKQUOTE);
  double_escaped = o.double;
  backquote = backquote (nat_eq byte BACKSLASH) (nat_eq byte BACKQUOTE);
  backquote_escaped = o.backquote;
  inner = inner (nat_eq byte BACKSLASH) (nat_eq byte BACKQUOTE);
  inner_escaped = o.inner;
}
  where
    single : (q : Bool) → cond q opens.word opens.single ≡ is_open (cond q InWord.Plain InWord.Single) rest
    single true = o.word
    single false = o.single

    double : (x d b : Bool) → cond x opens.double_escaped (cond d opens.word (cond b opens.inner opens.double))
        ≡ is_open (cond x InWord.DoubleEscaped (cond d InWord.Plain (cond b InWord.Inner InWord.Double))) rest
    double true d b = o.double_escaped
    double false true b = o.word
    double false false true = o.inner
    double false false false = o.double

    backquote : (x b : Bool) → cond x opens.backquote_escaped (cond b opens.word opens.backquote)
        ≡ is_open (cond x InWord.BackquoteEscaped (cond b InWord.Plain InWord.Backquote)) rest
    backquote true b = o.backquote_escaped
    backquote false true = o.word
    backquote false false = o.backquote

    inner : (x b : Bool) → cond x opens.inner_escaped (cond b opens.double opens.inner)
        ≡ is_open (cond x InWord.InnerEscaped (cond b InWord.Double InWord.Inner)) rest
    inner true b = o.inner_escaped
    inner false true = o.double
    inner false false = o.inner

-- what is known of a text is known of its ends
pub knows-drop : (known : List Bool) (k : ℕ) (text : List ℕ) → Knows known text → Knows known (drop k text)
knows-drop known k text knows = record {
  at = λ front rest is less.
      knows.at (take k text ++ front) rest (sym (take-append-drop k text) ∙ ap (λ xs. take k text ++ xs) is ∙ sym (append_assoc (take k text) front rest)) less;
}

pub knows-left : (known : List Bool) (left text : List ℕ) → IsLeft left text → Knows known text → Knows known left
knows-left known left text h knows = subst (λ xs. Knows known xs) (sym h.left_is) (knows-drop known h.count text knows)

pub knows-none : (known : List Bool) (text : List ℕ) → known ≡ [] → Knows known text
knows-none known text none = record { at = λ front rest is less. absurd (omega (arith, less, ap length none)) }

-- one end more
pub knows-more : (known : List Bool) (text : List ℕ) (at : ℕ) (b : Bool) → at + length known ≡ length text → b ≡ is_open InWord.Plain (drop at text) → Knows known text
    → Knows (known ++ b ∷ []) text
knows-more known text at b size b_is knows = record { at = λ front rest is less. by front rest is less (nat_lt (length rest) (length known)) refl }
  where
    by : (front rest : List ℕ) → text ≡ front ++ rest → length rest < length (known ++ b ∷ []) → (t : Bool) → nat_lt (length rest) (length known) ≡ t
        → get_or (known ++ b ∷ []) (length rest) false ≡ is_open InWord.Plain rest
    by front rest is less true h =
        let below : length rest < length known = grind (arith, nat_tests) in
        get_or_append_left known (b ∷ []) false (length rest) below ∙ knows.at front rest is below
    by front rest is less false h =
        let above : length known ≤ length rest = grind (arith, nat_tests) in
        let count : length known ≡ length rest = omega (arith, above, less, length-append known (b ∷ [])) in
        let front_is : length front ≡ at = omega (arith, size, count, ap length is, length-append front rest) in
        get_or_push known b false (length rest) count ∙ b_is ∙ ap (λ xs. is_open InWord.Plain (drop at xs)) is ∙ ap (is_open InWord.Plain) (drop_at front rest at front_is)

pub knows-lock : (known : List Bool) (text : List ℕ) → Knows known text → Knows known (lock_part text)
knows-lock known text k =
    knows-drop known _ _ (knows-drop known 1 (after_flags text) (knows-drop known _ _ (knows-drop known 1 _ (knows-drop known _ _ (knows-drop known 1 text k)))))

pub knows-value : (known : List Bool) (text : List ℕ) → Knows known text → Knows known (after_equals text)
knows-value known text k =
    knows-drop known _ _ (knows-drop known 1 (behind_name text) (knows-drop known _ _ (knows-drop known _ text k)))
