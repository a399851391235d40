-- What one turn of the reading takes from the front.
use Rattle.std.proofs.Common.{◌≡◌, ◌<◌, ◌≤◌, ◌+◌, ◌-◌, ℕ, suc, zero, nat_eq, Bool, true, false, not, ◌&&◌, ◌||◌, cond, List, [], ◌∷◌, ◌++◌, refl, ap, sym, ◌∙◌, length, take, drop, arith, subst, length-drop, slice_range}
use Rattle.std.proofs.lemmas.Bool.{cond-false, or_parts}
use Rattle.std.proofs.lemmas.List.{take_all}
use Rattle.std.proofs.lemmas.List.{drop-drop}
use Rattle.std.proofs.lemmas.List.Sums.{fold-append}
use Rattle.pm_vars.specs.Table.{Table}
use Rattle.pm_subst.specs.declared.kinds.Mode.{Mode}
use Rattle.pm_subst.specs.declared.kinds.Frame.{Frame}
use Rattle.pm_subst.specs.declared.kinds.Front.{Front}
use Rattle.pm_subst.specs.declared.kinds.Rule.{Rule}
use Rattle.pm_subst.specs.declared.kinds.Kind.TheVariants.{Text, Space, Comment, FormClose}
use Rattle.pm_bytes.specs.Alphabet.{BACKSLASH, DOLLAR, DOUBLE_QUOTE, SINGLE_QUOTE, BACKQUOTE, CLOSE_BRACE, HASH}
use Rattle.pm_bytes.specs.Letter.{is_space_byte}
use Rattle.pm_subst.specs.Bytes.{can_mean, plain_length}
use Rattle.pm_subst.specs.Commands.{command_of, commands_of}
use Rattle.pm_subst.specs.Front.{front_of, unquoted_front, itself, piece, all_or, turn_of}
use Rattle.pm_subst.specs.Fields.{Fields, Element, gathered, with_element}
use Rattle.pm_subst.specs.Tokens.{Token, token, tokens, token_of, rule_of, is_quoted, frames_after, fresh_after}
use Rattle.pm_subst.specs.Words.{elements, used_elements, unused_after, outputs_after, first_output}
use Rattle.pm_subst.proofs.Gather.{tokens-drop}

drop-pred : (taken byte : ℕ) (bytes : List ℕ) → 0 < taken → drop (taken - 1) bytes ≡ drop taken (byte ∷ bytes)
drop-pred zero byte bytes h = absurd (omega arith)
drop-pred (suc n) byte bytes h = let e : suc n - 1 ≡ n = omega arith in ap (λ k. drop k bytes) e

-- the first token, and the tokens after it
pub tokens-turn : (mode : Mode) (frames : List Frame) (fresh : Bool) (text : List ℕ) (front : Front)
    → 0 < length text → front ≡ front_of (rule_of mode frames fresh) text → 0 < front.taken
    → tokens mode zero frames fresh text
    ≡ token_of front (rule_of mode frames fresh).quoted text
    ∷ tokens mode zero (frames_after front.kind (rule_of mode frames fresh).quoted frames) (fresh_after front.kind fresh) (drop front.taken text)
tokens-turn mode frames fresh [] front h is some = absurd (omega arith)
tokens-turn mode frames fresh (byte ∷ bytes) front h is some =
    let quoted : Bool = (rule_of mode frames fresh).quoted in
    let P : Front → Type 0 = λ f. 0 < f.taken → token_of f quoted (byte ∷ bytes)
    ∷ tokens mode (f.taken - 1) (frames_after f.kind quoted frames) (fresh_after f.kind fresh) bytes
    ≡ token_of f quoted (byte ∷ bytes)
    ∷ tokens mode zero (frames_after f.kind quoted frames) (fresh_after f.kind fresh) (drop f.taken (byte ∷ bytes)) in
    let at : (f : Front) → P f = λ f pos. ap (λ ts. token_of f quoted (byte ∷ bytes) ∷ ts)
    (tokens-drop mode (f.taken - 1) (frames_after f.kind quoted frames) (fresh_after f.kind fresh) bytes
    ∙ ap (tokens mode zero (frames_after f.kind quoted frames) (fresh_after f.kind fresh)) (drop-pred f.taken byte bytes pos)) in
    let Q : Front → Type 0 = λ f. token_of f quoted (byte ∷ bytes)
    ∷ tokens mode (f.taken - 1) (frames_after f.kind quoted frames) (fresh_after f.kind fresh) bytes
    ≡ token_of front quoted (byte ∷ bytes)
    ∷ tokens mode zero (frames_after front.kind quoted frames) (fresh_after front.kind fresh) (drop front.taken (byte ∷ bytes)) in
    subst Q is (at front some)

-- outside double quotes
plain-outside : (rule : Rule) (byte : ℕ) (bytes : List ℕ) → (nat_eq byte SINGLE_QUOTE || nat_eq byte HASH || is_space_byte byte) ≡ false
    → unquoted_front rule (byte ∷ bytes) ≡ itself
plain-outside rule byte bytes h =
    let a = or_parts (nat_eq byte SINGLE_QUOTE || nat_eq byte HASH) (is_space_byte byte) h in
    let b = or_parts (nat_eq byte SINGLE_QUOTE) (nat_eq byte HASH) a.0 in
    cond-false (nat_eq byte SINGLE_QUOTE) _ _ b.0
    ∙ ap (λ c. cond (c && rule.may_end) (piece Comment 0 0 (length bytes + 1)) (cond (is_space_byte byte) (piece Space 0 1 1) itself)) b.1
    ∙ cond-false (is_space_byte byte) _ _ a.1

-- where a byte that can't mean more stands
plain-inner : (rule : Rule) (quoted : Bool) (byte : ℕ) (bytes : List ℕ) → (not quoted && (nat_eq byte SINGLE_QUOTE || nat_eq byte HASH || is_space_byte byte)) ≡ false
    → cond quoted itself (unquoted_front rule (byte ∷ bytes)) ≡ itself
plain-inner rule true byte bytes h = refl
plain-inner rule false byte bytes h = plain-outside rule byte bytes h

-- a byte that can't mean more stands for itself
plain-front : (rule : Rule) (byte : ℕ) (bytes : List ℕ) → can_mean rule.quoted byte ≡ false → front_of rule (byte ∷ bytes) ≡ itself
plain-front rule byte bytes h =
    let a = or_parts (nat_eq byte BACKSLASH || nat_eq byte DOLLAR || nat_eq byte DOUBLE_QUOTE || nat_eq byte BACKQUOTE || nat_eq byte CLOSE_BRACE) _ h in
    let b = or_parts (nat_eq byte BACKSLASH || nat_eq byte DOLLAR || nat_eq byte DOUBLE_QUOTE || nat_eq byte BACKQUOTE) (nat_eq byte CLOSE_BRACE) a.0 in
    let c = or_parts (nat_eq byte BACKSLASH || nat_eq byte DOLLAR || nat_eq byte DOUBLE_QUOTE) (nat_eq byte BACKQUOTE) b.0 in
    let d = or_parts (nat_eq byte BACKSLASH || nat_eq byte DOLLAR) (nat_eq byte DOUBLE_QUOTE) c.0 in
    let e = or_parts (nat_eq byte BACKSLASH) (nat_eq byte DOLLAR) d.0 in
    cond-false (nat_eq byte BACKSLASH) _ _ e.0 ∙ cond-false (nat_eq byte DOLLAR) _ _ e.1
    ∙ cond-false (nat_eq byte DOUBLE_QUOTE) _ _ d.1 ∙ cond-false (nat_eq byte BACKQUOTE) _ _ c.1
    ∙ ap (λ x. cond (x && rule.ends_form) (piece FormClose 0 0 1) (cond rule.quoted itself (unquoted_front rule (byte ∷ bytes)))) b.1
    ∙ plain-inner rule rule.quoted byte bytes a.1

-- a byte that can't mean more is a token of its own
plain-token : (mode : Mode) (frames : List Frame) (fresh : Bool) (byte : ℕ) (bytes : List ℕ) → can_mean (is_quoted mode frames) byte ≡ false
    → tokens mode zero frames fresh (byte ∷ bytes) ≡ token Text (is_quoted mode frames) (byte ∷ []) ∷ tokens mode zero frames false bytes
plain-token mode frames fresh byte bytes h =
    ap (λ front. token_of front (is_quoted mode frames) (byte ∷ bytes)
    ∷ tokens mode (front.taken - 1) (frames_after front.kind (is_quoted mode frames) frames) (fresh_after front.kind fresh) bytes)
    (plain-front (rule_of mode frames fresh) byte bytes h)

-- and its successors
none-plain : {A : Type 0} (n : ℕ) (b : Bool) (rest : ℕ) → suc n ≤ cond b 0 (rest + 1) → b ≡ true → A
none-plain n true rest h e = absurd (omega (arith, h))
none-plain n false rest h e = absurd (cc)

more-plain : (n : ℕ) (b : Bool) (rest : ℕ) → suc (suc n) ≤ cond b 0 (rest + 1) → suc n ≤ rest
more-plain n true rest h = absurd (omega (arith, h))
more-plain n false rest h = omega (arith, h)

-- bytes that can't mean more give at once what they give one by one
module _ (mode : Mode) (frames : List Frame) where
  abbrev quotes : Bool
  quotes = is_quoted mode frames

  elements-joined : (table : Table) (output : List ℕ) (unused : ℕ) (byte : ℕ) (bytes : List ℕ) (rest : List Element)
      → used_elements unused table output (token Text quotes (byte ∷ [])) ++ (used_elements unused table output (token Text quotes bytes) ++ rest)
      ≡ used_elements unused table output (token Text quotes (byte ∷ bytes)) ++ rest
  elements-joined table output zero byte bytes rest = refl
  elements-joined table output (suc unused) byte bytes rest = refl

  elements-next : (table : Table) (outputs : List (List ℕ)) (unused : ℕ) (fresh : Bool) (byte : ℕ) (bytes : List ℕ) → can_mean quotes byte ≡ false
      → elements table outputs unused (tokens mode zero frames fresh (byte ∷ bytes))
      ≡ used_elements unused table (first_output outputs) (token Text quotes (byte ∷ [])) ++ elements table outputs unused (tokens mode zero frames false bytes)
  elements-next table outputs unused fresh byte bytes h = ap (elements table outputs unused) (plain-token mode frames fresh byte bytes h)

  elements-run : (table : Table) (outputs : List (List ℕ)) (unused : ℕ) (fresh : Bool) (n : ℕ) (text : List ℕ) → suc n ≤ plain_length quotes text
      → elements table outputs unused (tokens mode zero frames fresh text)
      ≡ used_elements unused table (first_output outputs) (token Text quotes (take (suc n) text)) ++ elements table outputs unused (tokens mode zero frames false (drop (suc n) text))
  elements-run table outputs unused fresh n [] h = absurd (omega (arith, h))
  elements-run table outputs unused fresh zero (byte ∷ bytes) h =
      elim (can_mean quotes byte) as (λ b. can_mean quotes byte ≡ b → elements table outputs unused (tokens mode zero frames fresh (byte ∷ bytes))
      ≡ used_elements unused table (first_output outputs) (token Text quotes (byte ∷ [])) ++ elements table outputs unused (tokens mode zero frames false bytes)) [
        | true ↦ λ e. none-plain zero (can_mean quotes byte) (plain_length quotes bytes) h e
        | false ↦ λ e. elements-next table outputs unused fresh byte bytes e
      ] refl
  elements-run table outputs unused fresh (suc n) (byte ∷ bytes) h =
      elim (can_mean quotes byte) as (λ b. can_mean quotes byte ≡ b → elements table outputs unused (tokens mode zero frames fresh (byte ∷ bytes))
      ≡ used_elements unused table (first_output outputs) (token Text quotes (byte ∷ take (suc n) bytes)) ++ elements table outputs unused (tokens mode zero frames false (drop (suc n) bytes))) [
        | true ↦ λ e. none-plain (suc n) (can_mean quotes byte) (plain_length quotes bytes) h e
        | false ↦ λ e. elements-next table outputs unused fresh byte bytes e
            ∙ ap (λ es. used_elements unused table (first_output outputs) (token Text quotes (byte ∷ [])) ++ es)
            (elements-run table outputs unused false n bytes (more-plain n (can_mean quotes byte) (plain_length quotes bytes) h))
            ∙ elements-joined table (first_output outputs) unused byte (take (suc n) bytes) (elements table outputs unused (tokens mode zero frames false (drop (suc n) bytes)))
      ] refl

  commands-run : (fresh : Bool) (n : ℕ) (text : List ℕ) → suc n ≤ plain_length quotes text
      → commands_of (tokens mode zero frames fresh text) ≡ commands_of (tokens mode zero frames false (drop (suc n) text))
  commands-run fresh n [] h = absurd (omega (arith, h))
  commands-run fresh zero (byte ∷ bytes) h =
      elim (can_mean quotes byte) as (λ b. can_mean quotes byte ≡ b → commands_of (tokens mode zero frames fresh (byte ∷ bytes)) ≡ commands_of (tokens mode zero frames false bytes)) [
        | true ↦ λ e. none-plain zero (can_mean quotes byte) (plain_length quotes bytes) h e
        | false ↦ λ e. ap commands_of (plain-token mode frames fresh byte bytes e)
      ] refl
  commands-run fresh (suc n) (byte ∷ bytes) h =
      elim (can_mean quotes byte) as (λ b. can_mean quotes byte ≡ b → commands_of (tokens mode zero frames fresh (byte ∷ bytes)) ≡ commands_of (tokens mode zero frames false (drop (suc n) bytes))) [
        | true ↦ λ e. none-plain (suc n) (can_mean quotes byte) (plain_length quotes bytes) h e
        | false ↦ λ e. ap commands_of (plain-token mode frames fresh byte bytes e)
            ∙ commands-run false n bytes (more-plain n (can_mean quotes byte) (plain_length quotes bytes) h)
      ] refl

-- what a turn takes, and what comes after it
module _ (mode : Mode) (frames : List Frame) (fresh : Bool) (text : List ℕ) (some_left : 0 < length text) where
  abbrev rest : Front → List Token
  rest front = tokens mode zero (frames_after front.kind (is_quoted mode frames) frames) (fresh_after front.kind fresh) (drop front.taken text)

  abbrev Elements : Table → List (List ℕ) → ℕ → Front → Type 0
  Elements table outputs unused front =
      let token = token_of front (is_quoted mode frames) text in
      elements table outputs unused (tokens mode zero frames fresh text)
      ≡ used_elements unused table (first_output outputs) token ++ elements table (outputs_after front.kind outputs) (unused_after table token front.kind unused) (rest front)

  elements-turn : (table : Table) (outputs : List (List ℕ)) (unused n : ℕ) → plain_length (is_quoted mode frames) text ≡ n
      → let front = all_or n (front_of (rule_of mode frames fresh) text) in 0 < front.taken → Elements table outputs unused front
  elements-turn table outputs unused zero is some = ap (elements table outputs unused) (tokens-turn mode frames fresh text _ some_left refl some)
  elements-turn table outputs unused (suc n) is some =
      let whole : suc n ≡ suc n - 0 = omega arith in
      elements-run mode frames table outputs unused fresh n text (omega (arith, is))
      ∙ ap (λ k. used_elements unused table (first_output outputs) (token Text (is_quoted mode frames) (take k text)) ++ elements table outputs unused (tokens mode zero frames false (drop (suc n) text))) whole

  abbrev Commands : Front → Type 0
  Commands front = commands_of (tokens mode zero frames fresh text) ≡ command_of front.kind (token_of front (is_quoted mode frames) text).text ++ commands_of (rest front)

  commands-turn : (n : ℕ) → plain_length (is_quoted mode frames) text ≡ n
      → let front = all_or n (front_of (rule_of mode frames fresh) text) in 0 < front.taken → Commands front
  commands-turn zero is some = ap commands_of (tokens-turn mode frames fresh text _ some_left refl some)
  commands-turn (suc n) is some = commands-run mode frames fresh n text (omega (arith, is))

-- at a place of the text, at what the calls of a turn answered
module _ (mode : Mode) (frames : List Frame) (fresh : Bool) (text : List ℕ) (at : ℕ) (here : List ℕ)
    (rule : Rule) (front : Front) (frames_now : List Frame) (fresh_now : Bool)
    (within : at < length text) (here_is : drop at text ≡ here) (rule_is : rule ≡ rule_of mode frames fresh) (front_is : front ≡ turn_of rule here)
    (some : 0 < front.taken) (frames_is : frames_now ≡ frames_after front.kind rule.quoted frames) (fresh_is : fresh_now ≡ fresh_after front.kind fresh) where
  some_left : 0 < length here
  some_left = subst (λ xs. 0 < length xs) here_is (omega (arith, length-drop at text))

  front_now : front ≡ turn_of (rule_of mode frames fresh) here
  front_now = front_is ∙ ap (λ r. turn_of r here) rule_is

  quoted_is : rule.quoted ≡ is_quoted mode frames
  quoted_is = ap (λ (r : Rule). r.quoted) rule_is

  -- what is gathered goes on behind it
  pub gathered-turned : (splits : Bool) (table : Table) (outputs : List (List ℕ)) (unused : ℕ) (fields : Fields) (unused_now : ℕ) (outputs_now : List (List ℕ))
      → unused_now ≡ unused_after table (token_of front rule.quoted here) front.kind unused → outputs_now ≡ outputs_after front.kind outputs
      → gathered splits fields (elements table outputs unused (tokens mode zero frames fresh (drop at text)))
      ≡ gathered splits (gathered splits fields (used_elements unused table (first_output outputs) (token_of front rule.quoted here)))
      (elements table outputs_now unused_now (tokens mode zero frames_now fresh_now (drop (at + front.taken) text)))
  gathered-turned splits table outputs unused fields unused_now outputs_now unused_is outputs_is =
      let turn = subst (λ f. 0 < f.taken → Elements mode frames fresh here some_left table outputs unused f) (sym front_now)
      (elements-turn mode frames fresh here some_left table outputs unused _ refl) some in
      rw (here_is, unused_is, outputs_is, frames_is, fresh_is, quoted_is, ← drop-drop front.taken at text, here_is)
      (ap (gathered splits fields) turn
      ∙ fold-append (with_element splits) fields (used_elements unused table (first_output outputs) (token_of front (is_quoted mode frames) here)) _)

  pub commands-turned : commands_of (tokens mode zero frames fresh (drop at text))
      ≡ command_of front.kind (token_of front rule.quoted here).text ++ commands_of (tokens mode zero frames_now fresh_now (drop (at + front.taken) text))
  commands-turned =
      let turn = subst (λ f. 0 < f.taken → Commands mode frames fresh here some_left f) (sym front_now)
      (commands-turn mode frames fresh here some_left _ refl) some in
      rw (here_is, frames_is, fresh_is, quoted_is, ← drop-drop front.taken at text, here_is) turn

-- what `&text[at..]` is
pub range-to_end : (text : List ℕ) (at : ℕ) → slice_range text at (length text) ≡ drop at text
range-to_end text at = let whole : length (drop at text) ≤ length text - at = omega (arith, length-drop at text) in take_all (length text - at) (drop at text) whole
