-- Lists of names in which none stands twice.
use Rattle.std.proofs.Common.{◌≡◌, ℕ, Bool, true, false, not, cond, ◌&&◌, List, [], ◌∷◌, Option, Some, None, refl, sym, ap, ◌∙◌, subst, bytes_eq}
use Rattle.std.proofs.lemmas.Slice.Eq.{bytes_eq-Decides}
use Rattle.pm_host.proofs.Put.{same_name}
use Rattle.pm_journal.specs.Held.{holds_name, without}
use Rattle.pm_run.specs.HeldLocks.{each_once, only, HeldAre}

same_by : (a b : List ℕ) → bytes_eq a b ≡ true → a ≡ b
same_by a b h = (bytes_eq-Decides a b).0 h

-- the name in front goes first
pub without-front : (names : List (List ℕ)) (name : List ℕ) → without (name ∷ names) name ≡ names
without-front names name = ap (λ b. cond b names (name ∷ without names name)) (same_name name)

pub holds-front : (names : List (List ℕ)) (name : List ℕ) → holds_name (name ∷ names) name ≡ true
holds-front names name = ap (λ b. cond b true (holds_name names name)) (same_name name)

both_first : (a b : Bool) → not a && b ≡ true → a ≡ false
both_first true b h = sym h
both_first false b h = refl

both_second : (a b : Bool) → not a && b ≡ true → b ≡ true
both_second true b h = absurd (cc)
both_second false b h = h

both : (a b : Bool) → a ≡ false → b ≡ true → not a && b ≡ true
both true b h k = absurd (cc)
both false b h k = k

or_first : (a b : Bool) → cond a true b ≡ false → a ≡ false
or_first true b h = h
or_first false b h = refl

or_second : (a b : Bool) → cond a true b ≡ false → b ≡ false
or_second true b h = absurd (cc)
or_second false b h = h

neither : (a b : Bool) → a ≡ false → b ≡ false → cond a true b ≡ false
neither true b h k = h
neither false b h k = k

-- a name that isn't among some isn't among fewer
fewer_in : (same : Bool) (x : List ℕ) (xs less : List (List ℕ)) (m : List ℕ) → holds_name (x ∷ xs) m ≡ false → holds_name less m ≡ false → holds_name (cond same xs (x ∷ less)) m ≡ false
fewer_in true x xs less m h k = or_second (bytes_eq x m) (holds_name xs m) h
fewer_in false x xs less m h k = neither (bytes_eq x m) (holds_name less m) (or_first (bytes_eq x m) (holds_name xs m) h) k

fewer : (xs : List (List ℕ)) (n m : List ℕ) → holds_name xs m ≡ false → holds_name (without xs n) m ≡ false
fewer [] n m h = h
fewer (x ∷ xs) n m h = fewer_in (bytes_eq x n) x xs (without xs n) m h (fewer xs n m (or_second (bytes_eq x m) (holds_name xs m) h))

unless_not : (a b : Bool) → (a ≡ false → b ≡ false) → b ≡ true → a ≡ true
unless_not true b f h = refl
unless_not false b f h = sym (f refl) ∙ h

more : (xs : List (List ℕ)) (n m : List ℕ) → holds_name (without xs n) m ≡ true → holds_name xs m ≡ true
more xs n m h = unless_not (holds_name xs m) (holds_name (without xs n) m) (fewer xs n m) h

-- without one of them each is there once still
once_in : (same : Bool) (x n : List ℕ) (xs : List (List ℕ)) → each_once (x ∷ xs) ≡ true → each_once (without xs n) ≡ true → each_once (cond same xs (x ∷ without xs n)) ≡ true
once_in true x n xs h k = both_second (holds_name xs x) (each_once xs) h
once_in false x n xs h k = both (holds_name (without xs n) x) (each_once (without xs n)) (fewer xs n x (both_first (holds_name xs x) (each_once xs) h)) k

pub once_without : (xs : List (List ℕ)) (n : List ℕ) → each_once xs ≡ true → each_once (without xs n) ≡ true
once_without [] n h = h
once_without (x ∷ xs) n h = once_in (bytes_eq x n) x n xs h (once_without xs n (both_second (holds_name xs x) (each_once xs) h))

-- the name that went isn't there any more
gone_in : (same : Bool) (x n : List ℕ) (xs : List (List ℕ)) → bytes_eq x n ≡ same → each_once (x ∷ xs) ≡ true → holds_name (without xs n) n ≡ false → holds_name (cond same xs (x ∷ without xs n)) n ≡ false
gone_in true x n xs e h k = subst (λ m. holds_name xs m ≡ false) (same_by x n e) (both_first (holds_name xs x) (each_once xs) h)
gone_in false x n xs e h k = neither (bytes_eq x n) (holds_name (without xs n) n) e k

gone : (xs : List (List ℕ)) (n : List ℕ) → each_once xs ≡ true → holds_name (without xs n) n ≡ false
gone [] n h = refl
gone (x ∷ xs) n h = gone_in (bytes_eq x n) x n xs refl h (gone xs n (both_second (holds_name xs x) (each_once xs) h))

-- whichever of two names goes first
swapped_in : (p q : Bool) (x a b : List ℕ) (xs : List (List ℕ)) → bytes_eq x a ≡ p → bytes_eq x b ≡ q → without (without xs a) b ≡ without (without xs b) a
    → without (cond p xs (x ∷ without xs a)) b ≡ without (cond q xs (x ∷ without xs b)) a
swapped_in true true x a b xs e f k = ap (λ m. without xs m) (sym (same_by x b f) ∙ same_by x a e)
swapped_in true false x a b xs e f k = sym (ap (λ t. cond t (without xs b) (x ∷ without (without xs b) a)) e)
swapped_in false true x a b xs e f k = ap (λ t. cond t (without xs a) (x ∷ without (without xs a) b)) f
swapped_in false false x a b xs e f k =
    ap (λ t. cond t (without xs a) (x ∷ without (without xs a) b)) f ∙ ap (λ l. x ∷ l) k ∙ sym (ap (λ t. cond t (without xs b) (x ∷ without (without xs b) a)) e)

swapped : (xs : List (List ℕ)) (a b : List ℕ) → without (without xs a) b ≡ without (without xs b) a
swapped [] a b = refl
swapped (x ∷ xs) a b = swapped_in (bytes_eq x a) (bytes_eq x b) x a b xs refl refl (swapped xs a b)

-- another name stays
stays_in : (p : Bool) (x n g : List ℕ) (xs : List (List ℕ)) → bytes_eq x n ≡ p → bytes_eq n g ≡ false → holds_name (without xs n) g ≡ holds_name xs g
    → holds_name (cond p xs (x ∷ without xs n)) g ≡ holds_name (x ∷ xs) g
stays_in true x n g xs e apart k = sym (ap (λ t. cond t true (holds_name xs g)) (ap (λ m. bytes_eq m g) (same_by x n e) ∙ apart))
stays_in false x n g xs e apart k = ap (λ t. cond (bytes_eq x g) true t) k

stays : (xs : List (List ℕ)) (n g : List ℕ) → bytes_eq n g ≡ false → holds_name (without xs n) g ≡ holds_name xs g
stays [] n g apart = refl
stays (x ∷ xs) n g apart = stays_in (bytes_eq x n) x n g xs refl apart (stays xs n g apart)

-- two names of which one is there and the other isn't are two
apart_by : (xs : List (List ℕ)) (n g : List ℕ) (b : Bool) → bytes_eq n g ≡ b → holds_name xs n ≡ true → holds_name xs g ≡ false → b ≡ false
apart_by xs n g true e h k = sym (sym k ∙ ap (λ m. holds_name xs m) (sym (same_by n g e)) ∙ h)
apart_by xs n g false e h k = refl

apart_too : (xs : List (List ℕ)) (n g : List ℕ) (b : Bool) → bytes_eq n g ≡ b → holds_name xs n ≡ false → holds_name xs g ≡ true → b ≡ false
apart_too xs n g true e h k = sym k ∙ ap (λ m. holds_name xs m) (sym (same_by n g e)) ∙ h
apart_too xs n g false e h k = refl

-- no lock is held
pub none_held : HeldAre [] [] None
none_held = record { others = refl; held = refl; once = refl }

-- LOCKFILE got a lock that wasn't held
pub took_global : (blocks locks : List (List ℕ)) (n : List ℕ) → holds_name locks n ≡ false → HeldAre blocks locks None → HeldAre blocks (n ∷ locks) (Some n)
took_global blocks locks n free h = record {
  others = without-front locks n ∙ h.others;
  held = holds-front locks n;
  once = both (holds_name locks n) (each_once locks) free h.once;
}

-- LOCKFILE's was given back
pub gave_global : (blocks locks : List (List ℕ)) (n : List ℕ) → HeldAre blocks locks (Some n) → HeldAre blocks (without locks n) None
gave_global blocks locks n h = record { others = h.others; held = refl; once = once_without locks n h.once }

-- a block got a lock that wasn't held
pub took_block : (blocks locks : List (List ℕ)) (n : List ℕ) (global : Option (List ℕ)) → holds_name locks n ≡ false → HeldAre blocks locks global → HeldAre (n ∷ blocks) (n ∷ locks) global
took_block blocks locks n None free h = record { others = ap (λ l. n ∷ l) h.others; held = refl; once = both (holds_name locks n) (each_once locks) free h.once }
took_block blocks locks n (Some g) free h =
    let apart : bytes_eq n g ≡ false = apart_too locks n g (bytes_eq n g) refl free h.held in
    record {
      others = ap (λ t. cond t locks (n ∷ without locks g)) apart ∙ ap (λ l. n ∷ l) h.others;
      held = ap (λ t. cond t true (holds_name locks g)) apart ∙ h.held;
      once = both (holds_name locks n) (each_once locks) free h.once;
    }

-- the innermost block's lock is held
pub block_held : (blocks locks : List (List ℕ)) (n : List ℕ) (global : Option (List ℕ)) → HeldAre (n ∷ blocks) locks global → holds_name locks n ≡ true
block_held blocks locks n None h = ap (λ l. holds_name l n) h.others ∙ holds-front blocks n
block_held blocks locks n (Some g) h = more locks g n (ap (λ l. holds_name l n) h.others ∙ holds-front blocks n)

-- it was given back
pub gave_block : (blocks locks : List (List ℕ)) (n : List ℕ) (global : Option (List ℕ)) → HeldAre (n ∷ blocks) locks global → HeldAre blocks (without locks n) global
gave_block blocks locks n None h = record { others = ap (λ l. without l n) h.others ∙ without-front blocks n; held = refl; once = once_without locks n h.once }
gave_block blocks locks n (Some g) h =
    let inside : holds_name (without locks g) n ≡ true = ap (λ l. holds_name l n) h.others ∙ holds-front blocks n in
    let apart : bytes_eq n g ≡ false = apart_by (without locks g) n g (bytes_eq n g) refl inside (gone locks g h.once) in
    record {
      others = swapped locks n g ∙ ap (λ l. without l n) h.others ∙ without-front blocks n;
      held = stays locks n g apart ∙ h.held;
      once = once_without locks n h.once;
    }

only_in : (b : Bool) (x g : List ℕ) (xs : List (List ℕ)) → bytes_eq x g ≡ b → cond b xs (x ∷ without xs g) ≡ [] → x ∷ xs ≡ g ∷ []
only_in true x g xs e h = ap (λ y. y ∷ xs) (same_by x g e) ∙ ap (λ l. g ∷ l) h
only_in false x g xs e h = absurd (cc)

-- outside blocks a process holds LOCKFILE's lock alone, if any
pub only_global : (locks : List (List ℕ)) (global : Option (List ℕ)) → HeldAre [] locks global → locks ≡ only global
only_global locks None h = h.others
only_global [] (Some g) h = let e : false ≡ true = h.held in absurd (cc)
only_global (x ∷ xs) (Some g) h = only_in (bytes_eq x g) x g xs refl h.others
