-- A table after a change at one identifier.
use Rattle.std.proofs.Common.{◌≡◌, ℕ, true, false, cond, Option, Some, option_map, List, sym, ap, subst, ◌∙◌, ⊎_elim, arith, if◌then◌else◌}
use Rattle.std.specs.Prelude.{Vec}
use Rattle.std.specs.BTreeMap.{BTreeMap, UpdatesBy, is_at}
use Rattle.std.specs.Cmp.{eq_by_cmp_equiv}
use Rattle.std.specs.Cmp.Lexicographic.{slice_cmp, nat_list_cmp_total, nat_list_eq_equiv}
use Rattle.std.specs.Map.{KeepsOthers}
use Rattle.std.specs.Ordering.{nat_cmp, is_eq}
use Rattle.std.specs.Str.{bytes_eq}
use Rattle.std.proofs.lemmas.Bool.{cases_Bool, cond-true, cond-false}
use Rattle.std.proofs.lemmas.Map.Text.{is_eq-slice_cmp}
use Rattle.std.proofs.lemmas.Slice.Eq.{bytes_eq-Decides}
use Rattle.formail_extra.specs.Table.{mark_at, ArePast}

apart : (bs cs ks : List ℕ) → bytes_eq bs cs ≡ false → is_eq (slice_cmp nat_cmp bs ks) ≡ true → is_eq (slice_cmp nat_cmp cs ks) ≡ false
apart bs cs ks n y =
    is_eq-slice_cmp cs ks ∙ nat_list_eq_equiv.symm cs ks ∙ sym (nat_list_eq_equiv.congr bs ks cs (sym (is_eq-slice_cmp bs ks) ∙ y)) ∙ n

-- the table after its value at one key was set
abbrev pub Sets : {A : Type 0} → List ℕ → BTreeMap (Vec ℕ A) ℕ → BTreeMap (Vec ℕ A) ℕ → Option ℕ → Type 0
Sets {A} bs m n w = UpdatesBy (λ (x y : Vec ℕ A). slice_cmp nat_cmp x.items y.items) (λ (k : Vec ℕ A). slice_cmp nat_cmp bs k.items) m n w

others : {A : Type 0} (bs : List ℕ) (m n : BTreeMap (Vec ℕ A) ℕ) (w : Option ℕ) → Sets bs m n w → (cs : List ℕ) → bytes_eq bs cs ≡ false → mark_at n cs ≡ mark_at m cs
unfolding KeepsOthers
others bs m n w h cs differs =
    h.3 (λ k. is_at (λ l. slice_cmp nat_cmp cs l.items) k) (λ x y. (eq_by_cmp_equiv nat_list_cmp_total).congr cs x.items y.items) (λ k. apart bs cs k.items differs)

pub mark_at-set : {A : Type 0} (bs : List ℕ) (m n : BTreeMap (Vec ℕ A) ℕ) (w : Option ℕ) → Sets bs m n w → (cs : List ℕ) → mark_at n cs ≡ cond (bytes_eq bs cs) w (mark_at m cs)
mark_at-set bs m n w h cs =
    ⊎_elim
    (λ y. subst (λ l. mark_at n l ≡ w) ((bytes_eq-Decides bs cs).0 y) h.1 ∙ sym (cond-true (bytes_eq bs cs) w (mark_at m cs) y))
    (λ n'. others bs m n w h cs n' ∙ sym (cond-false (bytes_eq bs cs) w (mark_at m cs) n'))
    (cases_Bool (bytes_eq bs cs))

-- an identifier that isn't marked was put into a table without marks
pub past_put : {A : Type 0} (bs : List ℕ) (m n : BTreeMap (Vec ℕ A) ℕ) → Sets bs m n (Some 0) → ArePast m 0 → ArePast n 0
past_put bs m n h past = λ id last is.
    ⊎_elim
    (λ y. let same : Some last ≡ Some 0 = sym is ∙ mark_at-set bs m n (Some 0) h id ∙ cond-true (bytes_eq bs id) (Some 0) (mark_at m id) y in
    let none : last ≡ 0 = cc in
    omega arith)
    (λ n'. past id last (sym (others bs m n (Some 0) h id n') ∙ is))
    (cases_Bool (bytes_eq bs id))

-- where the key had a value, its value alone changes
pub marked_there : {A : Type 0} (bs : List ℕ) (m n : BTreeMap (Vec ℕ A) ℕ) (last round : ℕ) → Some last ≡ mark_at m bs → Sets bs m n (Some round)
    → (cs : List ℕ) → mark_at n cs ≡ (if bytes_eq bs cs then option_map (λ _. round) (mark_at m cs) else mark_at m cs)
marked_there bs m n last round there h cs =
    ⊎_elim
    (λ y. let same : bs ≡ cs = (bytes_eq-Decides bs cs).0 y in
    mark_at-set bs m n (Some round) h cs ∙ cond-true (bytes_eq bs cs) (Some round) (mark_at m cs) y
    ∙ ap (option_map (λ _. round)) (subst (λ l. Some last ≡ mark_at m l) same there)
    ∙ sym (cond-true (bytes_eq bs cs) (option_map (λ _. round) (mark_at m cs)) (mark_at m cs) y))
    (λ n'. others bs m n (Some round) h cs n' ∙ sym (cond-false (bytes_eq bs cs) (option_map (λ _. round) (mark_at m cs)) (mark_at m cs) n'))
    (cases_Bool (bytes_eq bs cs))
