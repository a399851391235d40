-- A text has one first token.
use Rattle.std.proofs.Common.{◌≡◌, ◌==◌, ℕ, ◌+◌, ◌<◌, ◌≤◌, Bool, true, false, cond, List, [], ◌∷◌, ◌++◌, length, get_or, drop, Option, Some, None, refl, sym, ◌∙◌, subst, ap, arith, length-drop, ◌⊎◌, inl, inr}
use Rattle.std.proofs.lemmas.Bool.{eqb-true, cases_Bool}
use Rattle.std.proofs.lemmas.List.{drop-drop}
use Rattle.pm_regex.specs.declared.op.Op.{Op}
use Rattle.pm_regex.specs.declared.op.Op.TheVariants as op
use Rattle.pm_regex.specs.declared.op.Atom.TheVariants.{LineStart}
use Rattle.pm_regex.specs.declared.sign.Sign.{Sign}
use Rattle.pm_regex.specs.declared.sign.Sign.TheVariants.{Edge, One}
use Rattle.pm_regex.specs.Tokens.{Token, sign, bracket, sign_of, escaped_sign, begins_with, Members, closed, more, Body, body, First, plain, escape, edge, line_start, members, others}
use Rattle.pm_regex.specs.Sets.{ReadsMembers, ReadsSet, HasNoBody}
use Rattle.pm_regex.specs.Signs.{HasNoToken}
use Rattle.pm_regex.proofs.SetLemmas.{one_member, opened, closed_there, parts}

-- where the members of a bracket expression begin
abbrev pub behind : Bool → List ℕ → List ℕ
behind true text = drop 2 text
behind false text = drop 1 text

abbrev pub Bracketed : List ℕ → Token → List ℕ → Type 0
Bracketed text t rest = (rs : List (ℕ × ℕ)) × (t ≡ bracket (begins_with 94 (drop 1 text)) rs) × Body (behind (begins_with 94 (drop 1 text)) text) rs rest

none_there : (b : ℕ) (s : Sign) → sign_of b ≡ Some s → (b == 91) ≡ true → ⊥
none_there b s is there = let e = subst (λ z. sign_of z ≡ Some s) (eqb-true b 91 there) is in cc

-- a token that begins with `[`
pub bracketed : (text : List ℕ) (t : Token) (rest : List ℕ) → First text t rest → begins_with 91 text ≡ true → Bracketed text t rest
bracketed text t rest (plain b s _ is) there = absurd (none_there b s is there)
bracketed text t rest (escape b _) there = cc
bracketed text t rest (edge _) there = cc
bracketed text t rest (line_start _ is) there = cc
bracketed text t rest (members u _ rs is b) there =
    (rs, ap (λ n. bracket n rs) (sym is), subst (λ n. Body (behind n (91 ∷ u)) rs rest) (sym is) b)
bracketed text t rest (others u _ rs b) there = (rs, refl, b)

bracket_begins : (text : List ℕ) → begins_with 91 text ≡ true → text ≡ 91 ∷ drop 1 text
bracket_begins [] is = cc
bracket_begins (a ∷ u) is = ap (λ z. z ∷ u) (eqb-true a 91 is)

negated_there : (u : List ℕ) (rs : List (ℕ × ℕ)) (rest : List ℕ) → begins_with 94 u ≡ true → Body (drop 1 u) rs rest → First (91 ∷ u) (bracket true rs) rest
negated_there [] rs rest is b = cc
negated_there (a ∷ u) rs rest is b = subst (λ z. First (91 ∷ z ∷ u) (bracket true rs) rest) (sym (eqb-true a 94 is)) (others u rest rs b)

pub set_token : (text : List ℕ) (n : Bool) (rs : List (ℕ × ℕ)) (rest : List ℕ) → begins_with 91 text ≡ true → begins_with 94 (drop 1 text) ≡ n →
    Body (behind n text) rs rest → First text (bracket n rs) rest
set_token text true rs rest there is b =
    subst (λ z. First z (bracket true rs) rest) (sym (bracket_begins text there))
    (negated_there (drop 1 text) rs rest is (subst (λ z. Body z rs rest) (sym (drop-drop 1 1 text)) b))
set_token text false rs rest there is b =
    subst (λ z. First z (bracket false rs) rest) (sym (bracket_begins text there)) (members (drop 1 text) rest rs is b)

pub begins_some : (b : ℕ) (text : List ℕ) → begins_with b text ≡ true → 0 < length text
begins_some b [] is = cc
begins_some b (a ∷ u) is = omega arith

-- no members, no bracket expression
pub no_bracket : (text : List ℕ) → begins_with 91 text ≡ true → HasNoBody (behind (begins_with 94 (drop 1 text)) text) → HasNoToken text
no_bracket text there none t rest first =
    let p = bracketed text t rest first there in
    none p.0 rest p.2

-- the members after the first two bytes, or after the first
pub negated_set : (text : List ℕ) (before mid after : List Op) (n : ℕ) → begins_with 91 text ≡ true → begins_with 94 (drop 1 text) ≡ true →
    2 ≤ length text → after ≡ mid ++ op.Set true ∷ [] → ReadsMembers (drop 2 text) before mid n → ReadsSet text before after (2 + n)
negated_set text before mid after n there is two new r = record {
  negated = true;
  ranges = r.ranges;
  some = omega arith;
  within = omega (arith, r.within, length-drop 2 text);
  token = set_token text true r.ranges (drop (2 + n) text) there is (subst (λ z. Body (drop 2 text) r.ranges z) (drop-drop n 2 text) r.body);
  ops = new ∙ ap (λ z. z ++ op.Set true ∷ []) r.ops;
}

pub plain_set : (text : List ℕ) (before mid after : List Op) (n : ℕ) → begins_with 91 text ≡ true → begins_with 94 (drop 1 text) ≡ false →
    1 ≤ length text → after ≡ mid ++ op.Set false ∷ [] → ReadsMembers (drop 1 text) before mid n → ReadsSet text before after (1 + n)
plain_set text before mid after n there is one new r = record {
  negated = false;
  ranges = r.ranges;
  some = omega arith;
  within = omega (arith, r.within, length-drop 1 text);
  token = set_token text false r.ranges (drop (1 + n) text) there is (subst (λ z. Body (drop 1 text) r.ranges z) (drop-drop n 1 text) r.body);
  ops = new ∙ ap (λ z. z ++ op.Set false ∷ []) r.ops;
}

pub escaped_there : (text : List ℕ) → begins_with 92 text ≡ true → 2 ≤ length text → First text (sign (escaped_sign (get_or text 1 0))) (drop 2 text)
escaped_there [] is two = cc
escaped_there (a ∷ []) is two = absurd (omega (arith, two))
escaped_there (a ∷ b ∷ u) is two = subst (λ z. First (z ∷ b ∷ u) (sign (escaped_sign b)) u) (sym (eqb-true a 92 is)) (escape b u)

pub edge_there : (text : List ℕ) → begins_with 94 text ≡ true → begins_with 94 (drop 1 text) ≡ true → First text (sign Edge) (drop 2 text)
edge_there [] is also = cc
edge_there (a ∷ []) is also = cc
edge_there (a ∷ b ∷ u) is also =
    subst (λ z. First (z ∷ b ∷ u) (sign Edge) u) (sym (eqb-true a 94 is)) (subst (λ z. First (94 ∷ z ∷ u) (sign Edge) u) (sym (eqb-true b 94 also)) (edge u))

pub line_start_there : (text : List ℕ) → begins_with 94 text ≡ true → begins_with 94 (drop 1 text) ≡ false → First text (sign (One LineStart)) (drop 1 text)
line_start_there [] is other = cc
line_start_there (a ∷ u) is other = subst (λ z. First (z ∷ u) (sign (One LineStart)) u) (sym (eqb-true a 94 is)) (line_start u other)

pub plain_there : (text : List ℕ) (s : Sign) → 0 < length text → sign_of (get_or text 0 0) ≡ Some s → First text (sign s) (drop 1 text)
plain_there [] s some is = absurd (omega (arith, some))
plain_there (a ∷ u) s some is = plain a s u is

-- what a sign at the front makes of a text
abbrev caret_front : Bool → List ℕ → Option (Token × List ℕ)
caret_front true u = Some (sign Edge, drop 1 u)
caret_front false u = Some (sign (One LineStart), u)

abbrev escaped_front : List ℕ → Option (Token × List ℕ)
escaped_front [] = None
escaped_front (b ∷ u) = Some (sign (escaped_sign b), u)

abbrev front_of : ℕ → List ℕ → Option Sign → Option (Token × List ℕ)
front_of b u (Some s) = Some (sign s, u)
front_of b u None = cond (b == 92) (escaped_front u) (caret_front (begins_with 94 u) u)

abbrev front : List ℕ → Option (Token × List ℕ)
front [] = None
front (b ∷ u) = front_of b u (sign_of b)

pub sign_front : (text : List ℕ) (t : Token) (rest : List ℕ) → First text t rest → begins_with 91 text ≡ false → front text ≡ Some (t, rest)
sign_front text t rest (plain b s _ is) other = ap (front_of b rest) is
sign_front text t rest (escape b _) other = refl
sign_front text t rest (edge _) other = refl
sign_front text t rest (line_start _ is) other = ap (λ z. caret_front z rest) is
sign_front text t rest (members u _ rs is b) other = cc
sign_front text t rest (others u _ rs b) other = cc

-- members are read in one way
one_members : (t : List ℕ) (rs qs : List (ℕ × ℕ)) (u v : List ℕ) → Members t rs u → Members t qs v → (rs ≡ qs) × (u ≡ v)
one_members t rs qs u v (closed _) y =
    let p = closed_there t qs v y refl in
    (sym p.0, let e : 93 ∷ u ≡ 93 ∷ v = p.1 in cc)
one_members t rs qs u v (more _ w _ a b ps other m ms) y =
    let p = opened t qs v y other in
    let one = one_member t a b p.0 p.1 w p.2 m p.4 in
    let rest = one_members w ps p.3 u v ms (subst (λ z. Members z p.3 v) (sym one.2) p.5) in
    (ap (λ z. (z, b) ∷ ps) one.0 ∙ ap (λ z. (p.0, z) ∷ ps) one.1 ∙ ap (λ z. (p.0, p.1) ∷ z) rest.0 ∙ sym p.6, rest.1)

one_body : (t : List ℕ) (rs qs : List (ℕ × ℕ)) (u v : List ℕ) → Body t rs u → Body t qs v → (rs ≡ qs) × (u ≡ v)
one_body t rs qs u v (body _ w _ a b ps m ms) y =
    let p = parts t qs v y in
    let one = one_member t a b p.0 p.1 w p.2 m p.4 in
    let rest = one_members w ps p.3 u v ms (subst (λ z. Members z p.3 v) (sym one.2) p.5) in
    (ap (λ z. (z, b) ∷ ps) one.0 ∙ ap (λ z. (p.0, z) ∷ ps) one.1 ∙ ap (λ z. (p.0, p.1) ∷ z) rest.0 ∙ sym p.6, rest.1)

some_pair : {x y : Token × List ℕ} → Some x ≡ Some y → x ≡ y
some_pair e = cc

first_by : (text : List ℕ) (t s : Token) (u v : List ℕ) → First text t u → First text s v → (begins_with 91 text ≡ true) ⊎ (begins_with 91 text ≡ false) → (t ≡ s) × (u ≡ v)
first_by text t s u v x y (inl is) =
    let p = bracketed text t u x is in
    let q = bracketed text s v y is in
    let one = one_body (behind (begins_with 94 (drop 1 text)) text) p.0 q.0 u v p.2 q.2 in
    (p.1 ∙ ap (λ z. bracket (begins_with 94 (drop 1 text)) z) one.0 ∙ sym q.1, one.1)
first_by text t s u v x y (inr other) =
    let same = some_pair (sym (sign_front text t u x other) ∙ sign_front text s v y other) in
    (ap (λ z. z.0) same, ap (λ z. z.1) same)

-- a text has one first token
pub one_first : (text : List ℕ) (t s : Token) (u v : List ℕ) → First text t u → First text s v → (t ≡ s) × (u ≡ v)
one_first text t s u v x y = first_by text t s u v x y (cases_Bool (begins_with 91 text))

pub none_first : (t : Token) (rest : List ℕ) → First [] t rest → ⊥
none_first t rest f = let e = sign_front [] t rest f refl in cc
