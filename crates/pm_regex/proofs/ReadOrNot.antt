-- Each text is read as an expression, or as none.
use Rattle.std.proofs.Common.{◌≡◌, ◌==◌, ◌&&◌, ◌⊎◌, ℕ, zero, suc, ◌<◌, ◌≤◌, Bool, true, false, if◌then◌else◌, List, [], ◌∷◌, ◌++◌, length, drop, Option, Some, None, refl, sym, ◌∙◌, ap, subst, inl, inr, arith, length-drop, lit<}
use Rattle.std.proofs.lemmas.Bool.{cases_Bool, cases_lt, eqb-true}
use Rattle.pm_regex.specs.declared.macros.Macro.{Macro}
use Rattle.pm_regex.specs.declared.macros.Macro.TheVariants.{ToAddress, ToWord, FromDaemon, FromMailer}
use Rattle.pm_regex.specs.declared.op.Atom.TheVariants.{LineStart}
use Rattle.pm_regex.specs.declared.sign.Sign.{Sign}
use Rattle.pm_regex.specs.declared.sign.Sign.TheVariants.{Edge, One}
use Rattle.pm_regex.specs.Re.{Whole}
use Rattle.pm_regex.specs.Macros.{Expands, done, part, macro_at, macro_name, span_of, put_for, bracket_text}
use Rattle.pm_regex.specs.Tokens.{Token, sign, bracket, sign_of, escaped_sign, begins_with, ends_range, Member, range, byte, Members, closed, more, Body, body, First, plain, escape, edge, line_start, members, others, IsTokens, none, next}
use Rattle.pm_regex.specs.Sets.{HasNoMember, HasNoBody}
use Rattle.pm_regex.specs.Signs.{HasNoToken}
use Rattle.pm_regex.specs.Machine.{reading}
use Rattle.pm_regex.specs.Reading.{Reads, HasNoReading}
use Rattle.pm_regex.proofs.Complete.{whole_reads}
use Rattle.pm_regex.proofs.Sound.{reads_whole}
use Rattle.pm_regex.proofs.ExpandLemmas.{one_text}
use Rattle.pm_regex.proofs.SetLemmas.{one_member, dash_there, opened, parts}
use Rattle.pm_regex.proofs.TokenLemmas.{behind, set_token, no_bracket, one_first, none_first, sign_front, edge_there, line_start_there, escaped_there}
use Rattle.pm_regex.proofs.ReadLemmas.{has_first, one_tokens}

-- members, bracket expressions and tokens take some bytes
member_shorter : (t : List ℕ) (a b : ℕ) (u : List ℕ) → Member t a b u → length u < length t
member_shorter t a b u (range _ _ _ ne le) = omega arith
member_shorter t a b u (byte _ _ is) = omega arith

members_shorter : (t : List ℕ) (rs : List (ℕ × ℕ)) (rest : List ℕ) → Members t rs rest → length rest < length t
members_shorter t rs rest (closed _) = omega arith
members_shorter t rs rest (more _ u _ a b qs other m ms) =
    (let x = member_shorter t a b u m in let y = members_shorter u qs rest ms in omega (arith, x, y))

body_shorter : (t : List ℕ) (rs : List (ℕ × ℕ)) (rest : List ℕ) → Body t rs rest → length rest < length t
body_shorter t rs rest (body _ u _ a b qs m ms) =
    (let x = member_shorter t a b u m in let y = members_shorter u qs rest ms in omega (arith, x, y))

first_shorter : (text : List ℕ) (t : Token) (rest : List ℕ) → First text t rest → length rest < length text
first_shorter text t rest (plain b s _ is) = omega arith
first_shorter text t rest (escape b _) = omega arith
first_shorter text t rest (edge _) = omega arith
first_shorter text t rest (line_start _ is) = omega arith
first_shorter text t rest (members u _ rs is b) = (let x = body_shorter u rs rest b in omega (arith, x))
first_shorter text t rest (others u _ rs b) = (let x = body_shorter u rs rest b in omega (arith, x))

-- a member at the front
abbrev HasMember : List ℕ → Type 0
HasMember t = (a : ℕ) × (b : ℕ) × (u : List ℕ) × Member t a b u

pub no_range : (a c b : ℕ) (v : List ℕ) → ends_range (c ∷ b ∷ v) ≡ true → b < a → HasNoMember (a ∷ c ∷ b ∷ v)
no_range a c b v is less x y w (range _ _ _ ne le) = absurd (omega (arith, less, le))
no_range a c b v is less x y w (byte _ _ other) = cc

by_range : (a : ℕ) (u : List ℕ) → ends_range u ≡ true → HasMember (a ∷ u) ⊎ HasNoMember (a ∷ u)
by_range a [] is = cc
by_range a (c ∷ []) is = cc
by_range a (c ∷ b ∷ v) is = elim (cases_lt b a) [
  | inl less ↦ inr (no_range a c b v is less)
  | inr le ↦ inl (a, b, v, dash_there (a ∷ c ∷ b ∷ v) is le)
]

member_or_not : (t : List ℕ) → HasMember t ⊎ HasNoMember t
member_or_not [] = inr (λ a b u m. (let less = member_shorter [] a b u m in absurd (omega (arith, less))))
member_or_not (a ∷ u) = elim (cases_Bool (ends_range u)) [ inl is ↦ by_range a u is | inr nay ↦ inl (a, a, u, byte a u nay) ]

-- members with their `]` at the front
abbrev HasMembers : List ℕ → Type 0
HasMembers t = (rs : List (ℕ × ℕ)) × (rest : List ℕ) × Members t rs rest

abbrev HasNoMembers : List ℕ → Type 0
HasNoMembers t = (rs : List (ℕ × ℕ)) (rest : List ℕ) → Members t rs rest → ⊥

closes : (t : List ℕ) → begins_with 93 t ≡ true → HasMembers t
closes [] is = cc
closes (a ∷ u) is = ([], u, subst (λ z. Members (z ∷ u) [] u) (sym (eqb-true a 93 is)) (closed u))

no_more : (t : List ℕ) → begins_with 93 t ≡ false → HasNoMember t → HasNoMembers t
no_more t other lacks rs rest ms = (let p = opened t rs rest ms other in lacks p.0 p.1 p.2 p.4)

stuck_after : (t u : List ℕ) (a b : ℕ) → begins_with 93 t ≡ false → Member t a b u → HasNoMembers u → HasNoMembers t
stuck_after t u a b other m lacks rs rest ms =
    let p = opened t rs rest ms other in
    let one = one_member t a b p.0 p.1 u p.2 m p.4 in
    lacks p.3 rest (subst (λ z. Members z p.3 rest) (sym one.2) p.5)

members_or_not : (n : ℕ) (t : List ℕ) → length t ≤ n → HasMembers t ⊎ HasNoMembers t
members_or_not zero [] fits = inr (no_more [] refl (λ a b u m. (let less = member_shorter [] a b u m in absurd (omega (arith, less)))))
members_or_not zero (a ∷ u) fits = absurd (omega (arith, fits))
members_or_not (suc n) t fits = elim (cases_Bool (begins_with 93 t)) [
  | inl is ↦ inl (closes t is)
  | inr other ↦ elim (member_or_not t) [
    | inr lacks ↦ inr (no_more t other lacks)
    | inl h ↦ elim (members_or_not n h.2 (let less = member_shorter t h.0 h.1 h.2 h.3 in omega (arith, less, fits))) [
      | inl k ↦ inl ((h.0, h.1) ∷ k.0, k.1, more t h.2 k.1 h.0 h.1 k.0 other h.3 k.2)
      | inr nay ↦ inr (stuck_after t h.2 h.0 h.1 other h.3 nay)
    ]
  ]
]

abbrev HasBody : List ℕ → Type 0
HasBody t = (rs : List (ℕ × ℕ)) × (rest : List ℕ) × Body t rs rest

no_body : (t u : List ℕ) (a b : ℕ) → Member t a b u → HasNoMembers u → HasNoBody t
no_body t u a b m lacks rs rest h =
    let p = parts t rs rest h in
    let one = one_member t a b p.0 p.1 u p.2 m p.4 in
    lacks p.3 rest (subst (λ z. Members z p.3 rest) (sym one.2) p.5)

body_or_not : (t : List ℕ) → HasBody t ⊎ HasNoBody t
body_or_not t = elim (member_or_not t) [
  | inr nay ↦ inr (λ rs rest h. (let p = parts t rs rest h in nay p.0 p.1 p.2 p.4))
  | inl h ↦ elim (members_or_not (length h.2) h.2 (omega arith)) [
    | inl k ↦ inl ((h.0, h.1) ∷ k.0, k.1, body t h.2 k.1 h.0 h.1 k.0 h.3 k.2)
    | inr nay ↦ inr (no_body t h.2 h.0 h.1 h.3 nay)
  ]
]

-- a token at the front
abbrev HasToken : List ℕ → Type 0
HasToken text = (t : Token) × (rest : List ℕ) × First text t rest

by_bracket : (text : List ℕ) → begins_with 91 text ≡ true → HasToken text ⊎ HasNoToken text
by_bracket text there = elim (body_or_not (behind (begins_with 94 (drop 1 text)) text)) [
  | inl h ↦ inl (bracket (begins_with 94 (drop 1 text)) h.0, h.1, set_token text (begins_with 94 (drop 1 text)) h.0 h.1 there refl h.2)
  | inr nay ↦ inr (no_bracket text there nay)
]

some_sign : (c : Bool) (s : Sign) (o : Option Sign) → (if c then Some s else o) ≡ None → o ≡ None
some_sign true s o e = cc
some_sign false s o e = e

no_sign : (c : Bool) (o : Option Sign) → c ≡ false → (if c then None else o) ≡ None → o ≡ None
no_sign true o nay e = cc
no_sign false o nay e = e

-- a byte that spells nothing by itself is one of three
plain_sign : (b : ℕ) → (b == 91) ≡ false → (b == 92) ≡ false → (b == 94) ≡ false → sign_of b ≡ None → ⊥
plain_sign b x y z e =
    let rest =
    some_sign (b == 36) _ _ (some_sign (b == 46) _ _ (some_sign (b == 63) _ _ (some_sign (b == 43) _ _
    (some_sign (b == 42) _ _ (some_sign (b == 124) _ _ (some_sign (b == 41) _ _ (some_sign (b == 40) _ _ e))))))) in
    let last = no_sign (b == 94) _ z (no_sign (b == 92) _ y (no_sign (b == 91) _ x rest)) in
    cc

by_escape : (b : ℕ) (u : List ℕ) → (b == 92) ≡ true → HasToken (b ∷ u) ⊎ HasNoToken (b ∷ u)
by_escape b [] is = inr (λ t rest f. alone t rest (subst (λ z. First (z ∷ []) t rest) (eqb-true b 92 is) f))
  where
    alone : (t : Token) (rest : List ℕ) → First (92 ∷ []) t rest → ⊥
    alone t rest f = (let e = sign_front (92 ∷ []) t rest f refl in cc)
by_escape b (c ∷ u) is = inl (sign (escaped_sign c), u, escaped_there (b ∷ c ∷ u) is (omega arith))

by_caret : (b : ℕ) (u : List ℕ) → (b == 94) ≡ true → HasToken (b ∷ u)
by_caret b u is = elim (cases_Bool (begins_with 94 u)) [
  | inl also ↦ (sign Edge, drop 2 (b ∷ u), edge_there (b ∷ u) is also)
  | inr other ↦ (sign (One LineStart), drop 1 (b ∷ u), line_start_there (b ∷ u) is other)
]

by_sign : (b : ℕ) (u : List ℕ) → (b == 91) ≡ false → (o : Option Sign) → sign_of b ≡ o → HasToken (b ∷ u) ⊎ HasNoToken (b ∷ u)
by_sign b u other (Some s) is = inl (sign s, u, plain b s u is)
by_sign b u other None is = elim (cases_Bool (b == 92)) [
  | inl escapes ↦ by_escape b u escapes
  | inr nay ↦ elim (cases_Bool (b == 94)) [ inl caret ↦ inl (by_caret b u caret) | inr nor ↦ absurd (plain_sign b other nay nor is) ]
]

first_or_not : (text : List ℕ) → HasToken text ⊎ HasNoToken text
first_or_not [] = inr (λ t rest f. none_first t rest f)
first_or_not (b ∷ u) = elim (cases_Bool (b == 91)) [ inl is ↦ by_bracket (b ∷ u) is | inr nay ↦ by_sign b u nay (sign_of b) refl ]

-- a text without macros is tokens, or none
abbrev HasNoTokens : List ℕ → Type 0
HasNoTokens text = (ts : List Token) → IsTokens text ts → ⊥

no_tokens_after : (text : List ℕ) (t : Token) (rest : List ℕ) → 0 < length text → First text t rest → HasNoTokens rest → HasNoTokens text
no_tokens_after text t rest some f nay ts is =
    let h = has_first text ts some is in
    let one = one_first text t h.token rest h.rest f h.first in
    nay h.others (subst (λ z. IsTokens z h.others) (sym one.1) h.behind)

tokens_or_not : (n : ℕ) (text : List ℕ) → length text ≤ n → ((ts : List Token) × IsTokens text ts) ⊎ HasNoTokens text
tokens_or_not zero [] fits = inl ([], none)
tokens_or_not zero (b ∷ u) fits = absurd (omega (arith, fits))
tokens_or_not (suc n) [] fits = inl ([], none)
tokens_or_not (suc n) (b ∷ u) fits = elim (first_or_not (b ∷ u)) [
  | inr nay ↦ inr (λ ts is. (let h = has_first (b ∷ u) ts (omega arith) is in nay h.token h.rest h.first))
  | inl h ↦ elim (tokens_or_not n h.1 (let less = first_shorter (b ∷ u) h.0 h.1 h.2 in omega (arith, less, fits))) [
    | inl k ↦ inl (h.0 ∷ k.0, next (b ∷ u) h.1 h.0 k.0 h.2 k.1)
    | inr nay ↦ inr (no_tokens_after (b ∷ u) h.0 h.1 (omega arith) h.2 nay)
  ]
]

if_some : (c : Bool) (x y : List ℕ) → 0 < length x → 0 < length y → 0 < length (if c then x else y)
if_some true x y p q = p
if_some false x y p q = q

name_some : (m : Macro) → 0 < length (macro_name m)
name_some ToAddress = lit< tt
name_some ToWord = lit< tt
name_some FromDaemon = lit< tt
name_some FromMailer = lit< tt

-- the first part of a text takes some bytes
span_some : (o : Option Macro) (b : ℕ) (u : List ℕ) → 0 < length (span_of o (b ∷ u))
span_some (Some m) b u = name_some m
span_some None b [] = omega arith
span_some None b (c ∷ u) =
    let third : List ℕ = if (b == 94) && (c == 94) then b ∷ c ∷ [] else b ∷ [] in
    let second : List ℕ = if b == 91 then b ∷ bracket_text (c ∷ u) else third in
    if_some (b == 92) (b ∷ c ∷ []) second (omega arith)
    (if_some (b == 91) (b ∷ bracket_text (c ∷ u)) third (omega arith)
    (if_some ((b == 94) && (c == 94)) (b ∷ c ∷ []) (b ∷ []) (omega arith) (omega arith)))

-- each text has its text after the macros
expanded : (n : ℕ) (text : List ℕ) → length text ≤ n → (after : List ℕ) × Expands text after
expanded zero [] fits = ([], done)
expanded zero (b ∷ u) fits = absurd (omega (arith, fits))
expanded (suc n) [] fits = ([], done)
expanded (suc n) (b ∷ u) fits =
    let text : List ℕ = b ∷ u in
    let span : ℕ = length (span_of (macro_at text) text) in
    let some = span_some (macro_at text) b u in
    let shorter : length (drop span text) ≤ n = omega (arith, some, fits, length-drop span text) in
    let rest = expanded n (drop span text) shorter in
    (put_for (macro_at text) text ++ rest.0, part text rest.0 (λ e. cc) rest.1)

-- the text is read as an expression, or as none
abbrev pub IsReadOrNot : List ℕ → Type 0
IsReadOrNot text = ((e : Whole) × Reads text e) ⊎ HasNoReading text

by_reading : (text after : List ℕ) (ts : List Token) → Expands text after → length after ≤ 65536 → IsTokens after ts → (o : Option Whole) → reading ts ≡ o →
    IsReadOrNot text
by_reading text after ts x room is (Some w) e = inl (w, record { after = after; tokens = ts; expands = x; room = room; cut = is; spelled = reads_whole ts w e })
by_reading text after ts x room is None e = inr (λ w r. (
    let same = one_text text r.after after r.expands x in
    let tokens = one_tokens after r.tokens ts (subst (λ z. IsTokens z r.tokens) same r.cut) is in
    let spelled : Some w ≡ None = sym (whole_reads r.tokens w r.spelled) ∙ ap reading tokens ∙ e in
    cc
    ))

pub read_or_not : (text : List ℕ) → IsReadOrNot text
read_or_not text =
    let h = expanded (length text) text (omega arith) in
    elim (cases_lt 65536 (length h.0)) [
      | inl long ↦ inr (λ w r. (let same = ap length (one_text text r.after h.0 r.expands h.1) in let room = r.room in absurd (omega (arith, same, room, long))))
      | inr room ↦ elim (tokens_or_not (length h.0) h.0 (omega arith)) [
        | inl k ↦ by_reading text h.0 k.0 h.1 room k.1 (reading k.0) refl
        | inr nay ↦ inr (λ w r. nay r.tokens (subst (λ z. IsTokens z r.tokens) (one_text text r.after h.0 r.expands h.1) r.cut))
      ]
    ]
