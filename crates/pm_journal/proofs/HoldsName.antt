-- Whether a name is among the held ones.
use Rattle.std.proofs.Common.{◌≡◌, ◌<◌, ◌≤◌, ◌+◌, zero, suc, arith, length, take, drop, get_or, ℕ, Bool, true, false, cond, List, [], ◌∷◌, ◌++◌, reverse, refl, ap, sym, ◌∙◌, append_assoc, bytes_eq}
use Rattle.std.proofs.lemmas.List.{reverse-append, take-append-drop, drop_more}
use Rattle.std.proofs.lemmas.Slice.Eq.{bytes_eq-Decides}
use Rattle.pm_host.proofs.Put.{same_name}
use Rattle.pm_journal.specs.Held.{holds_name, without}

either : (a b c : Bool) → cond a true (cond b true c) ≡ cond (cond a true b) true c
either true b c = refl
either false b c = refl

pub holds-append : (xs ys : List (List ℕ)) (name : List ℕ) → holds_name (xs ++ ys) name ≡ cond (holds_name xs name) true (holds_name ys name)
holds-append [] ys name = refl
holds-append (x ∷ xs) ys name = ap (λ b. cond (bytes_eq x name) true b) (holds-append xs ys name) ∙ either (bytes_eq x name) (holds_name xs name) (holds_name ys name)

turned : (a b : Bool) → cond a true (cond b true false) ≡ cond b true a
turned true true = refl
turned true false = refl
turned false true = refl
turned false false = refl

pub holds-reverse : (xs : List (List ℕ)) (name : List ℕ) → holds_name (reverse xs) name ≡ holds_name xs name
holds-reverse [] name = refl
holds-reverse (x ∷ xs) name =
    ap (λ l. holds_name l name) (reverse-append (x ∷ []) xs)
    ∙ holds-append (reverse xs) (x ∷ []) name
    ∙ turned (holds_name (reverse xs) name) (bytes_eq x name)
    ∙ ap (λ b. cond (bytes_eq x name) true b) (holds-reverse xs name)

apart_here : (b c : Bool) → cond b true c ≡ false → b ≡ false
apart_here true c h = h
apart_here false c h = refl

apart_after : (b c : Bool) → cond b true c ≡ false → c ≡ false
apart_after true c h = let e : true ≡ false = h in absurd (cc)
apart_after false c h = h

-- the name goes where it stands first
pub without-behind : (a b : List (List ℕ)) (name : List ℕ) → holds_name a name ≡ false → without (a ++ name ∷ b) name ≡ a ++ b
without-behind [] b name h = ap (λ t. cond t b (name ∷ without b name)) (same_name name)
without-behind (x ∷ xs) b name h =
    ap (λ t. cond t (xs ++ name ∷ b) (x ∷ without (xs ++ name ∷ b) name)) (apart_here (bytes_eq x name) (holds_name xs name) h)
    ∙ ap (λ l. x ∷ l) (without-behind xs b name (apart_after (bytes_eq x name) (holds_name xs name) h))

-- a name that isn't held is no loss
pub without-none : (a : List (List ℕ)) (name : List ℕ) → holds_name a name ≡ false → without a name ≡ a
without-none [] name h = refl
without-none (x ∷ xs) name h =
    ap (λ t. cond t xs (x ∷ without xs name)) (apart_here (bytes_eq x name) (holds_name xs name) h)
    ∙ ap (λ l. x ∷ l) (without-none xs name (apart_after (bytes_eq x name) (holds_name xs name) h))

turned_round : (pre post : List (List ℕ)) (x : List ℕ) → reverse (pre ++ x ∷ post) ≡ reverse post ++ x ∷ reverse pre
turned_round pre post x = reverse-append pre (x ∷ post) ∙ ap (λ l. l ++ reverse pre) (reverse-append (x ∷ []) post) ∙ append_assoc (reverse post) (x ∷ []) (reverse pre)

-- the last place at which a name stands is the first from after
pub given_from_after : (pre post : List (List ℕ)) (x name : List ℕ) → bytes_eq x name ≡ true → holds_name post name ≡ false → reverse (pre ++ post) ≡ without (reverse (pre ++ x ∷ post)) name
given_from_after pre post x name same apart =
    let e : x ≡ name = (bytes_eq-Decides x name).0 same in
    reverse-append pre post
    ∙ sym (without-behind (reverse post) (reverse pre) name (holds-reverse post name ∙ apart))
    ∙ ap (λ l. without l name) (ap (λ y. reverse post ++ y ∷ reverse pre) (sym e) ∙ sym (turned_round pre post x))

holds_there : (a b : Bool) → b ≡ true → true ≡ cond a true b
holds_there true b h = refl
holds_there false b h = sym h

pub held_there : (pre post : List (List ℕ)) (x name : List ℕ) → bytes_eq x name ≡ true → true ≡ holds_name (reverse (pre ++ x ∷ post)) name
held_there pre post x name same =
    holds_there (holds_name pre name) (holds_name (x ∷ post) name) (ap (λ b. cond b true (holds_name post name)) same)
    ∙ sym (holds-append pre (x ∷ post) name) ∙ sym (holds-reverse (pre ++ x ∷ post) name)

parted : (items : List (List ℕ)) (i : ℕ) → i < length items → items ≡ take i items ++ get_or items i [] ∷ drop (i + 1) items
parted items i h = sym (take-append-drop i items) ∙ ap (λ l. take i items ++ l) (drop_more items i [] h)

-- the last place at which a name stands is taken out
pub given_at : (items new : List (List ℕ)) (i left : ℕ) (name : List ℕ) → i < length items → left ≡ i + 1 → bytes_eq (get_or items i []) name ≡ true → holds_name (drop left items) name ≡ false
    → new ≡ take i items ++ drop (i + 1) items → reverse new ≡ without (reverse items) name
given_at items new i left name h l same apart e =
    ap reverse e ∙ given_from_after (take i items) (drop (i + 1) items) (get_or items i []) name same (ap (λ n. holds_name (drop n items) name) (sym l) ∙ apart)
    ∙ ap (λ k. without (reverse k) name) (sym (parted items i h))

pub held_at : (items : List (List ℕ)) (i : ℕ) (name : List ℕ) → i < length items → bytes_eq (get_or items i []) name ≡ true → true ≡ holds_name (reverse items) name
held_at items i name h same = held_there (take i items) (drop (i + 1) items) (get_or items i []) name same ∙ ap (λ k. holds_name (reverse k) name) (sym (parted items i h))

pub none_at : (items : List (List ℕ)) (left : ℕ) (name : List ℕ) → left ≤ 0 → holds_name (drop left items) name ≡ false → holds_name (reverse items) name ≡ false
none_at items zero name h apart = holds-reverse items name ∙ apart
none_at items (suc left) name h apart = absurd (omega arith)

one_less_in : (b : Bool) (xs : List (List ℕ)) (x name : List ℕ) → cond b true (holds_name xs name) ≡ true → (holds_name xs name ≡ true → length (without xs name) + 1 ≡ length xs)
    → length (cond b xs (x ∷ without xs name)) + 1 ≡ length (x ∷ xs)
one_less_in true xs x name h less = omega arith
one_less_in false xs x name h less = let e = less h in omega (arith, e)

-- one lock less is held
pub one_less : (a : List (List ℕ)) (name : List ℕ) → holds_name a name ≡ true → length (without a name) + 1 ≡ length a
one_less [] name h = absurd (cc)
one_less (x ∷ xs) name h = one_less_in (bytes_eq x name) xs x name h (one_less xs name)
