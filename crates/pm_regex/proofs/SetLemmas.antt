-- A text has one member, and one bracket expression, at its front.
use Rattle.std.proofs.Common.{◌≡◌, ◌≢◌, ◌==◌, not, ℕ, ◌+◌, ◌<◌, ◌≤◌, Bool, true, false, List, [], ◌∷◌, ◌++◌, length, get_or, drop, Option, Some, None, refl, sym, ◌∙◌, subst, ap, arith, append_assoc, append-nil}
use Rattle.std.proofs.lemmas.Bool.{ne_eqb, eqb-true, eqb-false, not-true, and_parts}
use Rattle.std.proofs.lemmas.List.{drop_more, drop-drop, drop_all}
use Rattle.pm_regex.specs.declared.op.Op.{Op}
use Rattle.pm_regex.specs.declared.op.Op.TheVariants as op
use Rattle.pm_regex.specs.Tokens.{begins_with, ends_range, Member, range, byte, Members, closed, more, Body, body}
use Rattle.pm_regex.specs.Sets.{range_ops, ReadsMember, ReadsMembers, HasNoMember, HasNoBody}

-- a member: its first byte, its last, and what follows
record Found : Type 0 where
  first : ℕ
  last : ℕ
  rest : List ℕ

range_of : ℕ → List ℕ → Option Found
range_of a [] = None
range_of a (c ∷ []) = None
range_of a (c ∷ b ∷ u) = Some (record { first = a; last = b; rest = u })

abbrev single_of : Bool → ℕ → List ℕ → Option Found
single_of true a u = range_of a u
single_of false a u = Some (record { first = a; last = a; rest = u })

abbrev member_of : List ℕ → Option Found
member_of [] = None
member_of (a ∷ u) = single_of (ends_range u) a u

is_range : (b : ℕ) (u : List ℕ) → b ≢ 93 → ends_range (45 ∷ b ∷ u) ≡ true
is_range b u ne = ap not (ne_eqb b 93 ne)

member_found : (t : List ℕ) (a b : ℕ) (u : List ℕ) → Member t a b u → member_of t ≡ Some (record { first = a; last = b; rest = u })
unfolding range_of
member_found t a b u (range _ _ _ ne le) = ap (λ x. single_of x a (45 ∷ b ∷ u)) (is_range b u ne)
member_found t a b u (byte _ _ is) = ap (λ x. single_of x a u) is

some_found : {x y : Found} → Some x ≡ Some y → x ≡ y
some_found e = cc

pub one_member : (t : List ℕ) (a b c d : ℕ) (u v : List ℕ) → Member t a b u → Member t c d v → (a ≡ c) × (b ≡ d) × (u ≡ v)
one_member t a b c d u v x y =
    let e = some_found (sym (member_found t a b u x) ∙ member_found t c d v y) in
    (ap (λ z. z.first) e, ap (λ z. z.last) e, ap (λ z. z.rest) e)

pub single_there : (text : List ℕ) → 0 < length text → ends_range (drop 1 text) ≡ false → Member text (get_or text 0 0) (get_or text 0 0) (drop 1 text)
single_there [] some is = absurd (omega (arith, some))
single_there (a ∷ u) some is = byte a u is

range_there : (a c b : ℕ) (u : List ℕ) → (c ≡ 45) → b ≢ 93 → a ≤ b → Member (a ∷ c ∷ b ∷ u) a b u
range_there a c b u e ne le = subst (λ z. Member (a ∷ z ∷ b ∷ u) a b u) (sym e) (range a b u ne le)

pub is_dash : (c b : ℕ) (u : List ℕ) → ends_range (c ∷ b ∷ u) ≡ true → (c ≡ 45) × (b ≢ 93)
is_dash c b u is =
    let p = and_parts (c == 45) (not (b == 93)) is in
    (eqb-true c 45 p.0, eqb-false b 93 (not-true (b == 93) p.1))

pub dash_there : (text : List ℕ) → ends_range (drop 1 text) ≡ true → get_or text 0 0 ≤ get_or text 2 0 → Member text (get_or text 0 0) (get_or text 2 0) (drop 3 text)
dash_there [] is le = cc
dash_there (a ∷ []) is le = cc
dash_there (a ∷ c ∷ []) is le = cc
dash_there (a ∷ c ∷ b ∷ u) is le = let d = is_dash c b u is in range_there a c b u d.0 d.1 le

-- what a member makes of the rest: members follow unless a `]` stands there
abbrev pub Opened : List ℕ → List (ℕ × ℕ) → List ℕ → Type 0
Opened t rs rest = (a : ℕ) × (b : ℕ) × (u : List ℕ) × (qs : List (ℕ × ℕ)) × Member t a b u × Members u qs rest × (rs ≡ (a, b) ∷ qs)

pub opened : (t : List ℕ) (rs : List (ℕ × ℕ)) (rest : List ℕ) → Members t rs rest → begins_with 93 t ≡ false → Opened t rs rest
opened t rs rest (closed _) is = cc
opened t rs rest (more _ u _ a b qs _ m ms) is = (a, b, u, qs, m, ms, refl)

pub closed_there : (t : List ℕ) (rs : List (ℕ × ℕ)) (rest : List ℕ) → Members t rs rest → begins_with 93 t ≡ true → (rs ≡ []) × (t ≡ 93 ∷ rest)
closed_there t rs rest (closed _) is = (refl, refl)
closed_there t rs rest (more _ u _ a b qs other m ms) is = cc

pub parts : (t : List ℕ) (rs : List (ℕ × ℕ)) (rest : List ℕ) → Body t rs rest → Opened t rs rest
parts t rs rest (body _ u _ a b qs m ms) = (a, b, u, qs, m, ms, refl)

no_members : (rs : List (ℕ × ℕ)) (rest : List ℕ) → Members [] rs rest → ⊥
no_members rs rest (more _ u _ a b qs _ m ms) = absurd (no_member u a b m)
  where
    no_member : (u : List ℕ) (a b : ℕ) → Member [] a b u → ⊥
    no_member u a b m = let e = member_found [] a b u m in cc

range_ops-append : (rs qs : List (ℕ × ℕ)) → range_ops (rs ++ qs) ≡ range_ops rs ++ range_ops qs
range_ops-append [] qs = refl
range_ops-append (r ∷ rs) qs = ap (λ x. op.Range r.0 r.1 ∷ x) (range_ops-append rs qs)

-- the members before this place are read
pub record IsReadTo (text : List ℕ) (before : List Op) (place : ℕ) (after : List Op) : Type 0 where
  pub ranges : List (ℕ × ℕ)
  pub ops : after ≡ before ++ range_ops ranges
  pub back : (rs : List (ℕ × ℕ)) (rest : List ℕ) → Members (drop place text) rs rest → Body text (ranges ++ rs) rest
  pub forth : (all : List (ℕ × ℕ)) (rest : List ℕ) → Body text all rest → (rs : List (ℕ × ℕ)) × Members (drop place text) rs rest × (all ≡ ranges ++ rs)

-- after the first member
pub first_read : (text : List ℕ) (before after : List Op) (n : ℕ) → ReadsMember text before after n → IsReadTo text before n after
first_read text before after n r = record {
  ranges = (r.first, r.last) ∷ [];
  ops = r.ops;
  back = λ rs rest ms. body text (drop n text) rest r.first r.last rs r.member ms;
  forth = λ all rest b.
      let p = parts text all rest b in
      let one = one_member text p.0 p.1 r.first r.last p.2 (drop n text) p.4 r.member in
      (p.3, subst (λ u. Members u p.3 rest) one.2 p.5, p.6 ∙ ap (λ x. (x, p.1) ∷ p.3) one.0 ∙ ap (λ x. (r.first, x) ∷ p.3) one.1);
}

-- after one more
pub next_read : (text : List ℕ) (before mid after : List Op) (place n : ℕ) → begins_with 93 (drop place text) ≡ false →
    ReadsMember (drop place text) mid after n → IsReadTo text before place mid → IsReadTo text before (place + n) after
next_read text before mid after place n other r x =
    let there = drop-drop n place text in
    record {
      ranges = x.ranges ++ (r.first, r.last) ∷ [];
      ops = r.ops ∙ ap (λ z. z ++ op.Range r.first r.last ∷ []) x.ops ∙ append_assoc before (range_ops x.ranges) (op.Range r.first r.last ∷ [])
          ∙ ap (λ z. before ++ z) (sym (range_ops-append x.ranges ((r.first, r.last) ∷ [])));
      back = λ rs rest ms.
          let m : Members (drop n (drop place text)) rs rest = subst (λ u. Members u rs rest) (sym there) ms in
          subst (λ z. Body text z rest) (sym (append_assoc x.ranges ((r.first, r.last) ∷ []) rs))
          (x.back ((r.first, r.last) ∷ rs) rest (more (drop place text) (drop n (drop place text)) rest r.first r.last rs other r.member m));
      forth = λ all rest b.
          let w = x.forth all rest b in
          let p = opened (drop place text) w.0 rest w.1 other in
          let one = one_member (drop place text) p.0 p.1 r.first r.last p.2 (drop n (drop place text)) p.4 r.member in (
            p.3,
            subst (λ u. Members u p.3 rest) (one.2 ∙ there) p.5,
            w.2 ∙ ap (λ z. x.ranges ++ z) (p.6 ∙ ap (λ z. (z, p.1) ∷ p.3) one.0 ∙ ap (λ z. (r.first, z) ∷ p.3) one.1)
                ∙ sym (append_assoc x.ranges ((r.first, r.last) ∷ []) p.3),
          );
    }

-- where no member follows, there are no members
pub no_next : (text : List ℕ) (before after : List Op) (place : ℕ) → begins_with 93 (drop place text) ≡ false → IsReadTo text before place after →
    HasNoMember (drop place text) → HasNoBody text
no_next text before after place other x none all rest b =
    let w = x.forth all rest b in
    let p = opened (drop place text) w.0 rest w.1 other in
    none p.0 p.1 p.2 p.4

pub no_first : (text : List ℕ) → HasNoMember text → HasNoBody text
no_first text none all rest b = let p = parts text all rest b in none p.0 p.1 p.2 p.4

-- without a `]`
pub never_closed : (text : List ℕ) (before after : List Op) (place : ℕ) → length text ≤ place → IsReadTo text before place after → HasNoBody text
never_closed text before after place end x all rest b =
    let w = x.forth all rest b in
    no_members w.0 rest (subst (λ u. Members u w.0 rest) (drop_all place text end) w.1)

-- at the `]`
pub all_read : (text : List ℕ) (before after : List Op) (place : ℕ) → place < length text → get_or text place 0 ≡ 93 → IsReadTo text before place after →
    ReadsMembers text before after (place + 1)
all_read text before after place lt is x = record {
  ranges = x.ranges;
  within = omega arith;
  body = subst (λ z. Body text z (drop (place + 1) text)) (append-nil x.ranges)
      (x.back [] (drop (place + 1) text) (subst (λ u. Members u [] (drop (place + 1) text)) (sym (drop_more text place 0 lt ∙ ap (λ b. b ∷ drop (place + 1) text) is)) (closed (drop (place + 1) text))));
  ops = x.ops;
}

pub begins_at : (text : List ℕ) (b place : ℕ) → (get_or text place 0 ≡ b → ⊥) → place < length text → begins_with b (drop place text) ≡ false
begins_at text b place ne lt = rw (drop_more text place 0 lt) (ne_eqb (get_or text place 0) b ne)
