-- How the text after its macros grows.
use Rattle.std.proofs.Common.{◌≡◌, ◌≢◌, ℕ, ◌+◌, ◌<◌, ◌≤◌, List, [], ◌++◌, length, take, drop, refl, sym, ◌∙◌, subst, ap, arith, append_assoc, append-nil, length-append, length-drop, ◌-◌}
use Rattle.std.proofs.lemmas.List.{drop-drop, drop_all, take_all}
use Rattle.pm_regex.specs.Macros.{macro_at, span_of, put_for, Expands, done, part}
use Rattle.pm_regex.specs.Expansion.{PutsPart}

-- a text that isn't empty is expanded part by part
abbrev pub Parted : List ℕ → List ℕ → Type 0
Parted text t = (v : List ℕ) × Expands (drop (length (span_of (macro_at text) text)) text) v × (t ≡ put_for (macro_at text) text ++ v)

parted : (text t : List ℕ) → Expands text t → text ≢ [] → Parted text t
parted text t done ne = absurd (ne refl)
parted text t (part _ after _ x) ne = (after, x, refl)

-- a text has one text after its macros
pub one_text : (text t u : List ℕ) → Expands text t → Expands text u → t ≡ u
one_text text t u done done = refl
one_text text t u done (part _ after ne x) = absurd (ne refl)
one_text text t u (part _ after ne x) done = absurd (ne refl)
one_text text t u (part _ a ne x) (part _ b ne2 y) =
    ap (λ z. put_for (macro_at text) text ++ z) (one_text (drop (length (span_of (macro_at text) text)) text) a b x y)

-- up to this place the text is expanded
pub record IsExpandedTo (text : List ℕ) (place : ℕ) (after : List ℕ) : Type 0 where
  pub back : (u : List ℕ) → Expands (drop place text) u → Expands text (after ++ u)
  pub forth : (t : List ℕ) → Expands text t → (u : List ℕ) × Expands (drop place text) u × (t ≡ after ++ u)

pub opening : (text : List ℕ) → IsExpandedTo text 0 []
opening text = record { back = λ u x. x; forth = λ t x. (t, x, refl) }

nonempty : (text : List ℕ) (place : ℕ) (n : ℕ) → 0 < n → n ≤ length (drop place text) → drop place text ≢ []
nonempty text place n some within e = absurd (omega (arith, ap length e))

-- one part further
pub part_further : (text : List ℕ) (place : ℕ) (before after : List ℕ) (n : ℕ) → PutsPart (drop place text) before after n →
    IsExpandedTo text place before → IsExpandedTo text (place + n) after
part_further text place before after n p x =
    let rest = drop place text in
    let there : drop (length (span_of (macro_at rest) rest)) rest ≡ drop (place + n) text = ap (λ k. drop k rest) p.part ∙ drop-drop n place text in
    let new : after ≡ before ++ put_for (macro_at rest) rest = (p.puts).is in
    record {
      back = λ u h.
          let h2 : Expands (drop (length (span_of (macro_at rest) rest)) rest) u = subst (λ t. Expands t u) (sym there) h in
          let w = x.back (put_for (macro_at rest) rest ++ u) (part rest u (nonempty text place n p.some p.within) h2) in
          subst (λ t. Expands text t) (sym (append_assoc before (put_for (macro_at rest) rest) u) ∙ ap (λ t. t ++ u) (sym new)) w;
      forth = λ t h.
          let w = x.forth t h in
          let v = parted rest w.0 w.1 (nonempty text place n p.some p.within) in (
            v.0,
            subst (λ z. Expands z v.0) there v.1,
            w.2 ∙ ap (λ z. before ++ z) v.2 ∙ sym (append_assoc before (put_for (macro_at rest) rest) v.0) ∙ ap (λ z. z ++ v.0) (sym new),
          );
    }

-- a part that is too long makes the whole too long
pub too_long : (text : List ℕ) (place : ℕ) (before : List ℕ) → 0 < length (drop place text) →
    65536 < length (before ++ put_for (macro_at (drop place text)) (drop place text)) → IsExpandedTo text place before →
    (t : List ℕ) → Expands text t → 65536 < length t
too_long text place before some long x t h =
    let w = x.forth t h in
    let v = parted (drop place text) w.0 w.1 (nonempty text place (length (drop place text)) some (omega arith)) in
    let e : t ≡ before ++ put_for (macro_at (drop place text)) (drop place text) ++ v.0 =
    w.2 ∙ ap (λ z. before ++ z) v.2 ∙ sym (append_assoc before (put_for (macro_at (drop place text)) (drop place text)) v.0) in
    rw e (rw length-append (omega arith))

-- nothing is left
pub expanded_whole : (text : List ℕ) (place : ℕ) (after : List ℕ) → length text ≤ place → IsExpandedTo text place after → Expands text after
expanded_whole text place after end x =
    let none : drop place text ≡ [] = drop_all place text end in
    subst (λ t. Expands text t) (append-nil after) (x.back [] (subst (λ t. Expands t []) (sym none) done))

-- what `&text[place..]` is
pub rest_is : (text : List ℕ) (place : ℕ) → take (length text - place) (drop place text) ≡ drop place text
rest_is text place = take_all (length text - place) (drop place text) (omega (arith, length-drop place text))
