-- Whether a `$` stands before an expression, as the code finds it and as the form says.
use Rattle.std.proofs.Common.{◌≡◌, ◌+◌, ℕ, suc, Bool, true, false, not, ◌&&◌, ◌||◌, cond, nat_eq, List, [], ◌∷◌, ◌++◌, refl, ap, sym, ◌∙◌, length, drop, arith, subst, length-append}
use Rattle.std.proofs.lemmas.List.{drop_at, append_assoc}
use Rattle.std.proofs.lemmas.Bool.Decides.{nat_tests}
use Rattle.pm_bytes.specs.Letter.{is_blank_byte, is_name_byte, is_name_start}
use Rattle.pm_bytes.specs.Alphabet.{BANG, DOLLAR, QUESTION}
use Rattle.pm_recipe.specs.Bytes.{begins_with}
use Rattle.pm_recipe.specs.Places.{far, text_after, rest_of, reach_of}
use Rattle.pm_recipe.specs.declared.leads.InLead.{InLead}
use Rattle.pm_recipe.specs.Leads.{lead_after, lead_places}
use Rattle.pm_recipe.specs.Weights.{is_at_dollar, is_expanded}
use Rattle.pm_recipe.specs.Conditions.{IsLead, IsExpanded, are_name, are_blank}
use Rattle.pm_recipe.specs.Conditions.IsLead.{None, Blank, Bang, Area}
use Rattle.pm_recipe.proofs.Forms.{equal, no, and-left, and-right}
use Rattle.pm_recipe.proofs.WordRuns.{true-false}
use Rattle.pm_recipe.proofs.Quoted.{Goes, none-gone, on, byte-on}

-- bytes of a lead
blank-no-start : (byte : ℕ) → is_blank_byte byte ≡ true → is_name_start byte ≡ false
blank-no-start byte h = grind (arith, nat_tests)

name-others : (byte : ℕ) → is_name_byte byte ≡ true → (nat_eq byte QUESTION ≡ false) × (is_blank_byte byte ≡ false)
name-others byte h = (grind (arith, nat_tests), grind (arith, nat_tests))

blank-no-mark : (byte : ℕ) → is_blank_byte byte ≡ true → nat_eq byte QUESTION ≡ false
blank-no-mark byte h = grind (arith, nat_tests)

or-first : (a b : Bool) → a ≡ true → not (a || b) ≡ false
or-first true b h = refl
or-first false b h = no h

or-front : (a b c : Bool) → a ≡ true → not (a || b || c) ≡ false
or-front true b c h = refl
or-front false b c h = no h

or-last : (a b c : Bool) → c ≡ true → not (a || b || c) ≡ false
or-last true b c h = refl
or-last false true c h = refl
or-last false false true h = refl
or-last false false false h = no h

blank-on : (byte : ℕ) (rest : List ℕ) → is_blank_byte byte ≡ true → Goes lead_places InLead.Before (byte ∷ rest) InLead.Before rest
blank-on byte rest h =
    byte-on InLead.Before InLead.Before byte rest refl (or-front (is_blank_byte byte) (nat_eq byte BANG) (is_name_start byte) h)
    (ap (λ b. cond b InLead.Name InLead.Before) (blank-no-start byte h))

start-on : (byte : ℕ) (rest : List ℕ) → is_name_start byte ≡ true → Goes lead_places InLead.Before (byte ∷ rest) InLead.Name rest
start-on byte rest h =
    byte-on InLead.Before InLead.Name byte rest refl (or-last (is_blank_byte byte) (nat_eq byte BANG) (is_name_start byte) h)
    (ap (λ b. cond b InLead.Name InLead.Before) h)

name-on : (others rest : List ℕ) → are_name others ≡ true → Goes lead_places InLead.Name (others ++ rest) InLead.Name rest
name-on [] rest h = none-gone InLead.Name rest
name-on (byte ∷ others) rest h =
    let first = and-left (is_name_byte byte) (are_name others) h in
    let more = and-right (is_name_byte byte) (are_name others) h in
    on InLead.Name InLead.Name InLead.Name (byte ∷ (others ++ rest)) (others ++ rest) rest
    (byte-on InLead.Name InLead.Name byte (others ++ rest) refl (or-last (is_blank_byte byte) (nat_eq byte QUESTION) (is_name_byte byte) first)
    (ap (λ b. cond b InLead.Mark (cond (is_blank_byte byte) InLead.Blanks InLead.Name)) (name-others byte first).0
    ∙ ap (λ b. cond b InLead.Blanks InLead.Name) (name-others byte first).1))
    (name-on others rest more)

blanks-on : (blanks rest : List ℕ) → are_blank blanks ≡ true → Goes lead_places InLead.Blanks (blanks ++ (QUESTION ∷ rest)) InLead.Mark rest
blanks-on [] rest h = byte-on InLead.Blanks InLead.Mark QUESTION rest refl refl refl
blanks-on (byte ∷ blanks) rest h =
    let first = and-left (is_blank_byte byte) (are_blank blanks) h in
    on InLead.Blanks InLead.Blanks InLead.Mark (byte ∷ (blanks ++ (QUESTION ∷ rest))) (blanks ++ (QUESTION ∷ rest)) rest
    (byte-on InLead.Blanks InLead.Blanks byte (blanks ++ (QUESTION ∷ rest)) refl (or-first (is_blank_byte byte) (nat_eq byte QUESTION) first)
    (ap (λ b. cond b InLead.Mark InLead.Blanks) (blank-no-mark byte first)))
    (blanks-on blanks rest (and-right (is_blank_byte byte) (are_blank blanks) h))

mark-on : (blanks rest : List ℕ) → are_blank blanks ≡ true → Goes lead_places InLead.Name (blanks ++ (QUESTION ∷ rest)) InLead.Mark rest
mark-on [] rest h = byte-on InLead.Name InLead.Mark QUESTION rest refl refl refl
mark-on (byte ∷ blanks) rest h =
    let first = and-left (is_blank_byte byte) (are_blank blanks) h in
    on InLead.Name InLead.Blanks InLead.Mark (byte ∷ (blanks ++ (QUESTION ∷ rest))) (blanks ++ (QUESTION ∷ rest)) rest
    (byte-on InLead.Name InLead.Blanks byte (blanks ++ (QUESTION ∷ rest)) refl
    (or-front (is_blank_byte byte) (nat_eq byte QUESTION) (is_name_byte byte) first)
    (ap (λ b. cond b InLead.Mark (cond (is_blank_byte byte) InLead.Blanks InLead.Name)) (blank-no-mark byte first)
    ∙ ap (λ b. cond b InLead.Blanks InLead.Name) first))
    (blanks-on blanks rest (and-right (is_blank_byte byte) (are_blank blanks) h))

lead-on : (lead rest : List ℕ) → IsLead lead → Goes lead_places InLead.Before (lead ++ rest) InLead.Before rest
lead-on _ rest None = none-gone InLead.Before rest
lead-on _ rest (Blank byte lead h l) =
    on InLead.Before InLead.Before InLead.Before (byte ∷ (lead ++ rest)) (lead ++ rest) rest (blank-on byte (lead ++ rest) h) (lead-on lead rest l)
lead-on _ rest (Bang lead l) =
    on InLead.Before InLead.Before InLead.Before (BANG ∷ (lead ++ rest)) (lead ++ rest) rest (byte-on InLead.Before InLead.Before BANG (lead ++ rest) refl refl refl) (lead-on lead rest l)
lead-on _ rest (Area first others blanks lead start names blank l) =
    let marks : List ℕ = QUESTION ∷ (QUESTION ∷ (lead ++ rest)) in
    let text_is : (first ∷ (others ++ (blanks ++ (QUESTION ∷ (QUESTION ∷ lead))))) ++ rest ≡ first ∷ (others ++ (blanks ++ marks)) =
    ap (λ xs. first ∷ xs) (append_assoc others (blanks ++ (QUESTION ∷ (QUESTION ∷ lead))) rest ∙ ap (λ xs. others ++ xs) (append_assoc blanks (QUESTION ∷ (QUESTION ∷ lead)) rest)) in
    subst (λ xs. Goes lead_places InLead.Before xs InLead.Before rest) (sym text_is)
    (on InLead.Before InLead.Name InLead.Before (first ∷ (others ++ (blanks ++ marks))) (others ++ (blanks ++ marks)) rest (start-on first (others ++ (blanks ++ marks)) start)
    (on InLead.Name InLead.Name InLead.Before (others ++ (blanks ++ marks)) (blanks ++ marks) rest (name-on others (blanks ++ marks) names)
    (on InLead.Name InLead.Mark InLead.Before (blanks ++ marks) (QUESTION ∷ (lead ++ rest)) rest (mark-on blanks (QUESTION ∷ (lead ++ rest)) blank)
    (on InLead.Mark InLead.Before InLead.Before (QUESTION ∷ (lead ++ rest)) (lead ++ rest) rest (byte-on InLead.Mark InLead.Before QUESTION (lead ++ rest) refl refl refl)
    (lead-on lead rest l)))))

both : (a b : Bool) → a ≡ true → b ≡ true → (a && b) ≡ true
both true b h i = i
both false b h i = h

pub expanded-read : (text : List ℕ) → IsExpanded text → is_expanded text ≡ true
expanded-read text e =
    let after : List ℕ = DOLLAR ∷ e.rest in
    let g = lead-on e.lead after e.leads in
    let count_is : length e.lead ≡ far lead_places InLead.Before (e.lead ++ after) = omega (arith, g.far_is, g.length_is, length-append e.lead after) in
    let behind_is : text_after lead_places InLead.Before text ≡ after = ap (text_after lead_places InLead.Before) e.text_is ∙ drop_at e.lead after _ count_is in
    both (is_at_dollar (rest_of lead_places false InLead.Before text)) (begins_with DOLLAR (text_after lead_places InLead.Before text))
    (ap (λ xs. is_at_dollar (rest_of lead_places false InLead.Before xs)) e.text_is ∙ ap is_at_dollar g.place_is) (ap (begins_with DOLLAR) behind_is)

-- from a place on, what is found is an expression with a `$` before it
abbrev found : InLead → List ℕ → Bool
found at text = is_at_dollar (rest_of lead_places false at text) && begins_with DOLLAR (text_after lead_places at text)

record InName (text : List ℕ) : Type 0 where
  others : List ℕ
  blanks : List ℕ
  rest : List ℕ
  text_is : text ≡ others ++ (blanks ++ (QUESTION ∷ (QUESTION ∷ rest)))
  names : are_name others ≡ true
  blank : are_blank blanks ≡ true
  expanded : IsExpanded rest

record InBlanks (text : List ℕ) : Type 0 where
  blanks : List ℕ
  rest : List ℕ
  text_is : text ≡ blanks ++ (QUESTION ∷ (QUESTION ∷ rest))
  blank : are_blank blanks ≡ true
  expanded : IsExpanded rest

record InMark (text : List ℕ) : Type 0 where
  rest : List ℕ
  text_is : text ≡ QUESTION ∷ rest
  expanded : IsExpanded rest

-- one byte further
found-on : (at next : InLead) (byte : ℕ) (bytes : List ℕ) → Goes lead_places at (byte ∷ bytes) next bytes → found at (byte ∷ bytes) ≡ true → found next bytes ≡ true
found-on at next byte bytes g h =
    let far_is : far lead_places at (byte ∷ bytes) ≡ suc (far lead_places next bytes) = omega (arith, g.far_is, g.length_is) in
    sym (ap (λ p. is_at_dollar p && begins_with DOLLAR (text_after lead_places at (byte ∷ bytes))) g.place_is
    ∙ ap (λ n. is_at_dollar (rest_of lead_places false next bytes) && begins_with DOLLAR (drop n (byte ∷ bytes))) far_is) ∙ h

at-name : (byte : ℕ) (bytes : List ℕ) → is_name_start byte ≡ true → InName bytes → IsExpanded (byte ∷ bytes)
at-name byte bytes start n = record {
  lead = byte ∷ (n.others ++ (n.blanks ++ (QUESTION ∷ (QUESTION ∷ n.expanded.lead))));
  rest = n.expanded.rest;
  text_is = ap (λ xs. byte ∷ xs) (n.text_is ∙ ap (λ xs. n.others ++ (n.blanks ++ (QUESTION ∷ (QUESTION ∷ xs)))) n.expanded.text_is)
      ∙ sym (ap (λ xs. byte ∷ xs) (append_assoc n.others (n.blanks ++ (QUESTION ∷ (QUESTION ∷ n.expanded.lead))) (DOLLAR ∷ n.expanded.rest)
      ∙ ap (λ xs. n.others ++ xs) (append_assoc n.blanks (QUESTION ∷ (QUESTION ∷ n.expanded.lead)) (DOLLAR ∷ n.expanded.rest))));
  leads = Area byte n.others n.blanks n.expanded.lead start n.names n.blank n.expanded.leads;
}

after-blank : (byte : ℕ) (bytes : List ℕ) → is_blank_byte byte ≡ true → IsExpanded bytes → IsExpanded (byte ∷ bytes)
after-blank byte bytes h e = record {
  lead = byte ∷ e.lead;
  rest = e.rest;
  text_is = ap (λ xs. byte ∷ xs) e.text_is;
  leads = Blank byte e.lead h e.leads;
}

after-bang : (byte : ℕ) (bytes : List ℕ) → nat_eq byte BANG ≡ true → IsExpanded bytes → IsExpanded (byte ∷ bytes)
after-bang byte bytes h e = record {
  lead = BANG ∷ e.lead;
  rest = e.rest;
  text_is = ap (λ b. b ∷ bytes) (equal byte BANG h) ∙ ap (λ xs. BANG ∷ xs) e.text_is;
  leads = Bang e.lead e.leads;
}

bang-on : (byte : ℕ) (bytes : List ℕ) → nat_eq byte BANG ≡ true → Goes lead_places InLead.Before (byte ∷ bytes) InLead.Before bytes
bang-on byte bytes h = subst (λ b. Goes lead_places InLead.Before (b ∷ bytes) InLead.Before bytes) (sym (equal byte BANG h)) (byte-on InLead.Before InLead.Before BANG bytes refl refl refl)

-- before an expression, at a byte
lead-step : (byte : ℕ) (bytes : List ℕ) → (found InLead.Before bytes ≡ true → IsExpanded bytes) → (found InLead.Name bytes ≡ true → InName bytes)
    → found InLead.Before (byte ∷ bytes) ≡ true → IsExpanded (byte ∷ bytes)
lead-step byte bytes lead name h = by (is_blank_byte byte) (nat_eq byte BANG) (is_name_start byte) refl refl refl
  where
    stopped : (a b c : Bool) → a ≡ false → b ≡ false → c ≡ false → not (a || b || c) ≡ true
    stopped false false false i j k = refl
    stopped true b c i j k = true-false i
    stopped false true c i j k = true-false j
    stopped false false true i j k = true-false k

    dollar : not (is_blank_byte byte || nat_eq byte BANG || is_name_start byte) ≡ true → nat_eq byte DOLLAR ≡ true
    dollar e =
        sym (ap (λ b. is_at_dollar (cond b InLead.Before (rest_of lead_places false (lead_after InLead.Before byte) bytes))
        && begins_with DOLLAR (drop (cond b 0 (reach_of lead_places false (lead_after InLead.Before byte) bytes + 1)) (byte ∷ bytes))) e) ∙ h

    by : (a b c : Bool) → is_blank_byte byte ≡ a → nat_eq byte BANG ≡ b → is_name_start byte ≡ c → IsExpanded (byte ∷ bytes)
    by true b c i j k = after-blank byte bytes i (lead (found-on InLead.Before InLead.Before byte bytes (blank-on byte bytes i) h))
    by false true c i j k = after-bang byte bytes j (lead (found-on InLead.Before InLead.Before byte bytes (bang-on byte bytes j) h))
    by false false true i j k = at-name byte bytes k (name (found-on InLead.Before InLead.Name byte bytes (start-on byte bytes k) h))
    by false false false i j k = record {
      lead = [];
      rest = bytes;
      text_is = ap (λ b. b ∷ bytes) (equal byte DOLLAR (dollar (stopped _ _ _ i j k)));
      leads = None;
    }

question-on : (at : InLead) (byte : ℕ) (bytes : List ℕ) (next : InLead) → nat_eq byte QUESTION ≡ true → Goes lead_places at (QUESTION ∷ bytes) next bytes → Goes lead_places at (byte ∷ bytes) next bytes
question-on at byte bytes next h g = subst (λ b. Goes lead_places at (b ∷ bytes) next bytes) (sym (equal byte QUESTION h)) g

-- nothing is found where the reading ends elsewhere
name-step : (byte : ℕ) (bytes : List ℕ) → (found InLead.Name bytes ≡ true → InName bytes) → (found InLead.Blanks bytes ≡ true → InBlanks bytes)
    → (found InLead.Mark bytes ≡ true → InMark bytes) → found InLead.Name (byte ∷ bytes) ≡ true → InName (byte ∷ bytes)
name-step byte bytes name blanks mark h = by (is_blank_byte byte) (nat_eq byte QUESTION) (is_name_byte byte) refl refl refl
  where
    stopped : (a b c : Bool) → a ≡ false → b ≡ false → c ≡ false → not (a || b || c) ≡ true
    stopped false false false i j k = refl
    stopped true b c i j k = true-false i
    stopped false true c i j k = true-false j
    stopped false false true i j k = true-false k

    none : not (is_blank_byte byte || nat_eq byte QUESTION || is_name_byte byte) ≡ true → false ≡ true
    none e =
        sym (ap (λ b. is_at_dollar (cond b InLead.Name (rest_of lead_places false (lead_after InLead.Name byte) bytes))
        && begins_with DOLLAR (drop (cond b 0 (reach_of lead_places false (lead_after InLead.Name byte) bytes + 1)) (byte ∷ bytes))) e) ∙ h

    name-here : is_name_byte byte ≡ true → InName bytes → InName (byte ∷ bytes)
    name-here k n = record {
      others = byte ∷ n.others;
      blanks = n.blanks;
      rest = n.rest;
      text_is = ap (λ xs. byte ∷ xs) n.text_is;
      names = both (is_name_byte byte) (are_name n.others) k n.names;
      blank = n.blank;
      expanded = n.expanded;
    }

    by : (a b c : Bool) → is_blank_byte byte ≡ a → nat_eq byte QUESTION ≡ b → is_name_byte byte ≡ c → InName (byte ∷ bytes)
    by true b c i j k =
        let n = blanks (found-on InLead.Name InLead.Blanks byte bytes
        (byte-on InLead.Name InLead.Blanks byte bytes refl (or-front (is_blank_byte byte) (nat_eq byte QUESTION) (is_name_byte byte) i)
        (ap (λ b. cond b InLead.Mark (cond (is_blank_byte byte) InLead.Blanks InLead.Name)) (blank-no-mark byte i)
        ∙ ap (λ b. cond b InLead.Blanks InLead.Name) i)) h) in
        record {
          others = [];
          blanks = byte ∷ n.blanks;
          rest = n.rest;
          text_is = ap (λ xs. byte ∷ xs) n.text_is;
          names = refl;
          blank = both (is_blank_byte byte) (are_blank n.blanks) i n.blank;
          expanded = n.expanded;
        }
    by false true c i j k =
        let n = mark (found-on InLead.Name InLead.Mark byte bytes
        (question-on InLead.Name byte bytes InLead.Mark j (byte-on InLead.Name InLead.Mark QUESTION bytes refl refl refl)) h) in
        record {
          others = [];
          blanks = [];
          rest = n.rest;
          text_is = ap (λ b. b ∷ bytes) (equal byte QUESTION j) ∙ ap (λ xs. QUESTION ∷ xs) n.text_is;
          names = refl;
          blank = refl;
          expanded = n.expanded;
        }
    by false false true i j k = name-here k (name (found-on InLead.Name InLead.Name byte bytes
        (byte-on InLead.Name InLead.Name byte bytes refl (or-last (is_blank_byte byte) (nat_eq byte QUESTION) (is_name_byte byte) k)
        (ap (λ b. cond b InLead.Mark (cond (is_blank_byte byte) InLead.Blanks InLead.Name)) (name-others byte k).0
        ∙ ap (λ b. cond b InLead.Blanks InLead.Name) (name-others byte k).1)) h))
    by false false false i j k = no (none (stopped _ _ _ i j k))

blanks-step : (byte : ℕ) (bytes : List ℕ) → (found InLead.Blanks bytes ≡ true → InBlanks bytes) → (found InLead.Mark bytes ≡ true → InMark bytes)
    → found InLead.Blanks (byte ∷ bytes) ≡ true → InBlanks (byte ∷ bytes)
blanks-step byte bytes blanks mark h = by (is_blank_byte byte) (nat_eq byte QUESTION) refl refl
  where
    stopped : (a b : Bool) → a ≡ false → b ≡ false → not (a || b) ≡ true
    stopped false false i j = refl
    stopped true b i j = true-false i
    stopped false true i j = true-false j

    none : not (is_blank_byte byte || nat_eq byte QUESTION) ≡ true → false ≡ true
    none e =
        sym (ap (λ b. is_at_dollar (cond b InLead.Blanks (rest_of lead_places false (lead_after InLead.Blanks byte) bytes))
        && begins_with DOLLAR (drop (cond b 0 (reach_of lead_places false (lead_after InLead.Blanks byte) bytes + 1)) (byte ∷ bytes))) e) ∙ h

    by : (a b : Bool) → is_blank_byte byte ≡ a → nat_eq byte QUESTION ≡ b → InBlanks (byte ∷ bytes)
    by true b i j =
        let n = blanks (found-on InLead.Blanks InLead.Blanks byte bytes
        (byte-on InLead.Blanks InLead.Blanks byte bytes refl (or-first (is_blank_byte byte) (nat_eq byte QUESTION) i)
        (ap (λ b. cond b InLead.Mark InLead.Blanks) (blank-no-mark byte i))) h) in
        record {
          blanks = byte ∷ n.blanks;
          rest = n.rest;
          text_is = ap (λ xs. byte ∷ xs) n.text_is;
          blank = both (is_blank_byte byte) (are_blank n.blanks) i n.blank;
          expanded = n.expanded;
        }
    by false true i j =
        let n = mark (found-on InLead.Blanks InLead.Mark byte bytes
        (question-on InLead.Blanks byte bytes InLead.Mark j (byte-on InLead.Blanks InLead.Mark QUESTION bytes refl refl refl)) h) in
        record {
          blanks = [];
          rest = n.rest;
          text_is = ap (λ b. b ∷ bytes) (equal byte QUESTION j) ∙ ap (λ xs. QUESTION ∷ xs) n.text_is;
          blank = refl;
          expanded = n.expanded;
        }
    by false false i j = no (none (stopped _ _ i j))

mark-step : (byte : ℕ) (bytes : List ℕ) → (found InLead.Before bytes ≡ true → IsExpanded bytes) → found InLead.Mark (byte ∷ bytes) ≡ true → InMark (byte ∷ bytes)
mark-step byte bytes lead h = by (nat_eq byte QUESTION) refl
  where
    none : nat_eq byte QUESTION ≡ false → false ≡ true
    none e =
        sym (ap (λ b. is_at_dollar (cond (not b) InLead.Mark (rest_of lead_places false InLead.Before bytes))
        && begins_with DOLLAR (drop (cond (not b) 0 (reach_of lead_places false InLead.Before bytes + 1)) (byte ∷ bytes))) e) ∙ h

    by : (b : Bool) → nat_eq byte QUESTION ≡ b → InMark (byte ∷ bytes)
    by true j = record {
      rest = bytes;
      text_is = ap (λ b. b ∷ bytes) (equal byte QUESTION j);
      expanded = lead (found-on InLead.Mark InLead.Before byte bytes
          (question-on InLead.Mark byte bytes InLead.Before j (byte-on InLead.Mark InLead.Before QUESTION bytes refl refl refl)) h);
    }
    by false j = no (none j)

mutual
  found-lead : (text : List ℕ) → found InLead.Before text ≡ true → IsExpanded text
  found-lead [] = λ h. no h
  found-lead (byte ∷ bytes) = lead-step byte bytes (found-lead bytes) (found-name bytes)

  found-name : (text : List ℕ) → found InLead.Name text ≡ true → InName text
  found-name [] = λ h. no h
  found-name (byte ∷ bytes) = name-step byte bytes (found-name bytes) (found-blanks bytes) (found-mark bytes)

  found-blanks : (text : List ℕ) → found InLead.Blanks text ≡ true → InBlanks text
  found-blanks [] = λ h. no h
  found-blanks (byte ∷ bytes) = blanks-step byte bytes (found-blanks bytes) (found-mark bytes)

  found-mark : (text : List ℕ) → found InLead.Mark text ≡ true → InMark text
  found-mark [] = λ h. no h
  found-mark (byte ∷ bytes) = mark-step byte bytes (found-lead bytes)

pub expanded-of : (text : List ℕ) → is_expanded text ≡ true → IsExpanded text
expanded-of text h = found-lead text h
