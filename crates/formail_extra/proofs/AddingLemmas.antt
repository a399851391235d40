-- Mails are held against a cache one by one.
use Rattle.std.proofs.Common.{◌≡◌, ◌<◌, ℕ, suc, ◌+◌, arith, get_or, drop-cons, Bool, true, false, not, List, [], ◌∷◌, ◌++◌, drop, length, Option, Some, refl, sym, ap, ◌∙◌, subst, append_assoc, if◌then◌else◌}
use Rattle.pm_host.specs.Told.{HostView}
use Rattle.formail_extra.specs.Cache.{is_seen, is_kept, next_of, cache_after, marks_of}
use Rattle.formail_extra.specs.Adding.{Holds, Onward, HoldsAll}
use Rattle.formail_extra.specs.declared.adding.Written.{Written}
use Rattle.formail_extra.specs.declared.adding.Written.TheVariants.{Done, IsFolder, Raced, Failed}

pub seen_unkept : (keep seen : Bool) → keep ≡ not seen → keep ≡ false → seen ≡ true
seen_unkept keep true e f = refl
seen_unkept keep false e f = absurd (cc)

pub unseen_kept : (keep seen : Bool) → keep ≡ not seen → keep ≡ true → seen ≡ false
unseen_kept keep true e t = absurd (cc)
unseen_kept keep false e t = refl

pub known_stays : (most : ℕ) (bytes line : List ℕ) → is_seen bytes line ≡ true → bytes ≡ cache_after most bytes (Some line)
known_stays most bytes line seen = sym (ap (λ s. if s then bytes else next_of most bytes line) seen)

pub new_comes : (most : ℕ) (bytes line : List ℕ) → is_seen bytes line ≡ false → next_of most bytes line ≡ cache_after most bytes (Some line)
new_comes most bytes line unseen = sym (ap (λ s. if s then bytes else next_of most bytes line) unseen)

stops : (how : Written) (others : Type 0) (m : HostView) → (how ≡ Done → ⊥) → Onward how others how m m
stops Done others m undone = absurd (undone refl)
stops IsFolder others m undone = (refl, refl)
stops Raced others m undone = (refl, refl)
stops Failed others m undone = (refl, refl)

-- the mail at which it is broken off
pub last_held : (name : List ℕ) (most : ℕ) (bytes : List ℕ) (id : Option (List ℕ)) (rest ids : List (Option (List ℕ))) (how : Written) (a m : HostView) → ids ≡ id ∷ rest
    → Holds name most bytes id how a m → (how ≡ Done → ⊥) → HoldsAll name most bytes ids how a m
last_held name most bytes id rest ids how a m is holds undone =
    subst (λ l. HoldsAll name most bytes l how a m) (sym is) (how, m, holds, stops how (HoldsAll name most (cache_after most bytes id) rest how m m) m undone)

-- a mail before some others
pub first_held : (name : List ℕ) (most : ℕ) (bytes bytes' : List ℕ) (id : Option (List ℕ)) (rest ids : List (Option (List ℕ))) (first how : Written) (a m b : HostView) → ids ≡ id ∷ rest
    → Holds name most bytes id first a m → first ≡ Done → bytes' ≡ cache_after most bytes id → HoldsAll name most bytes' rest how m b → HoldsAll name most bytes ids how a b
first_held name most bytes bytes' id rest ids first how a m b is holds done behind others =
    subst (λ l. HoldsAll name most bytes l how a b) (sym is)
    (Done, m, subst (λ w. Holds name most bytes id w a m) done holds, subst (λ c. HoldsAll name most c rest how m b) behind others)

-- one mark more
pub kept_more : (kept kept' : List Bool) (keep : Bool) (most : ℕ) (bytes bytes' : List ℕ) (id : Option (List ℕ)) (rest ids : List (Option (List ℕ))) → kept' ≡ kept ++ keep ∷ []
    → keep ≡ is_kept bytes id → bytes' ≡ cache_after most bytes id → ids ≡ id ∷ rest → kept' ++ (marks_of most bytes' rest).kept ≡ kept ++ (marks_of most bytes ids).kept
kept_more kept kept' keep most bytes bytes' id rest ids pushed keeps behind is =
    ap (λ k. k ++ (marks_of most bytes' rest).kept) pushed
    ∙ append_assoc kept (keep ∷ []) (marks_of most bytes' rest).kept
    ∙ ap (λ k. kept ++ k ∷ (marks_of most bytes' rest).kept) keeps
    ∙ ap (λ c. kept ++ is_kept bytes id ∷ (marks_of most c rest).kept) behind
    ∙ sym (ap (λ l. kept ++ (marks_of most bytes l).kept) is)

-- the mails that are left begin with this one
pub next_mail : (ids : List (Option (List ℕ))) (i : ℕ) (id : Option (List ℕ)) → i < length ids → id ≡ get_or ids i id → drop i ids ≡ id ∷ drop (i + 1) ids
next_mail ids i id within is =
    let next : suc i ≡ i + 1 = omega arith in
    drop-cons ids i id within ∙ ap (λ x. x ∷ drop (suc i) ids) (sym is) ∙ ap (λ n. id ∷ drop n ids) next
