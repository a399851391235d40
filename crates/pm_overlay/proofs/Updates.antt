-- What a change at one name makes of the tree.
use Rattle.std.proofs.Common.{◌≡◌, ℕ, Bool, true, false, cond, List, [], Option, Some, None, Result, Ok, Err, OnOk, OnErr, refl, sym, ap, ◌∙◌, bytes_eq, string_cmp, nat_cmp, is_eq, string_bytes}
use Rattle.std.specs.BTreeMap.{get_by_text}
use Rattle.std.specs.BTreeMap as tree
use Rattle.std.specs.Cmp.Lexicographic.{slice_cmp}
use Rattle.std.specs.Map.{lookup}
use Rattle.std.proofs.lemmas.Map.Text.{btree_map_updates_text}
use Rattle.pm_host.proofs.Put.{put_same}
use Rattle.pm_host.specs.World.{World, kept, world_with}
use Rattle.pm_host.specs.declared.nodes.Node.{Node}
use Rattle.pm_overlay.specs.Changes.{Changes, changed, stands, over, Puts, Shortens, front_length}
use Rattle.pm_overlay.specs.Steps.{layer, Has, Becomes, IsSame}
use Rattle.pm_overlay.specs.declared.changed.Changed.{Changed}
use Rattle.pm_overlay.specs.Base.{Holds, Stays}
use Rattle.pm_overlay.proofs.Alters.{stays_same, holds_always, holds_by}

-- one name has another change
abbrev pub UpdatesAt : List ℕ → Changes → Changes → Changed → Type 0
UpdatesAt name m n this = tree.UpdatesBy string_cmp (λ k. slice_cmp nat_cmp name (string_bytes k)) m n (Some this)

pub puts : (m n : Changes) (name : List ℕ) (this : Changed) → UpdatesAt name m n this → Puts name this m n
puts m n name this u = btree_map_updates_text name m n (Some this) u

turn : (b : Bool) (this : Changed) (here : Option Changed) (w : World) (q : List ℕ) → stands (cond b (Some this) here) w q ≡ cond b (changed this w) (stands here w q)
turn true this here w q = refl
turn false this here w q = refl

pub put_over : (m n : Changes) (slept : ℕ) (name : List ℕ) (this : Changed) (w : World) → Puts name this m n → over n slept w ≡ world_with (over m slept w) name (changed this w)
put_over m n slept name this w p =
    let at : (q : List ℕ) → stands (get_by_text n q) w q ≡ cond (bytes_eq name q) (changed this w) (stands (get_by_text m q) w q) = λ q. ap (λ c. stands c w q) (p q) ∙ turn (bytes_eq name q) this (get_by_text m q) w q in
    λ i. record { nodes = λ q. at q i; moment = (over m slept w).moment; others = []; children = []; inputs = [] }

pub has : (base : Option World) (m n : Changes) (slept : ℕ) (name : List ℕ) (this : Changed) → Puts name this m n → Has name this (layer base m slept) (layer base n slept)
has base m n slept name this p = record {
  base = stays_same base;
  does = holds_always (λ w. over n slept w ≡ world_with (over m slept w) name (changed this w)) base (λ w. put_over m n slept name this w p);
}

pub becomes : (base : Option World) (m n : Changes) (slept : ℕ) (name : List ℕ) (f : Option Node → Option Node) (old new : Changed) → Some old ≡ get_by_text m name → UpdatesAt name m n new
    → ((w : World) → changed new w ≡ f (changed old w)) → Becomes name f (layer base m slept) (layer base n slept)
becomes base m n slept name f old new e u g = record {
  base = stays_same base;
  does =
      holds_always (λ w. over n slept w ≡ world_with (over m slept w) name (f ((over m slept w).nodes name))) base
      (λ w. put_over m n slept name new w (puts m n name new u) ∙ ap (world_with (over m slept w) name) (g w ∙ ap (λ c. f (stands c w name)) e));
}

pub written_back : (base : Option World) (m n : Changes) (slept : ℕ) (name : List ℕ) (old new : Changed) → Some old ≡ get_by_text m name → UpdatesAt name m n new → new ≡ old → IsSame (layer base m slept) (layer base n slept)
written_back base m n slept name old new e u same = record {
  base = stays_same base;
  does =
      holds_always (λ w. over n slept w ≡ over m slept w) base
      (λ w. put_over m n slept name new w (puts m n name new u) ∙ put_same (over m slept w) name (changed new w) (sym (ap (λ c. changed c w) same ∙ ap (λ c. stands c w name) e)));
}

over_entries : (m n : Changes) (slept : ℕ) (w : World) → n.entries ≡ m.entries → over n slept w ≡ over m slept w
over_entries m n slept w e =
    let at : (q : List ℕ) → get_by_text n q ≡ get_by_text m q = λ q. ap (λ es. lookup (λ k. is_eq (slice_cmp nat_cmp q (string_bytes k))) es) e in
    λ i. record { nodes = λ q. stands (at q i) w q; moment = (over m slept w).moment; others = []; children = []; inputs = [] }

pub same_entries : (base : Option World) (m n : Changes) (slept : ℕ) → n.entries ≡ m.entries → IsSame (layer base m slept) (layer base n slept)
same_entries base m n slept e = record {
  base = stays_same base;
  does = holds_always (λ w. over n slept w ≡ over m slept w) base (λ w. over_entries m n slept w e);
}

pub on_ok_map : {T E : Type 0} {A B : Type 0} (r : Result T E) → OnOk r A → (A → B) → OnOk r B
on_ok_map (Ok x) a f = f a
on_ok_map (Err x) a f = tt

pub on_err_map : {T E : Type 0} {A B : Type 0} (r : Result T E) → OnErr r A → (A → B) → OnErr r B
on_err_map (Ok x) a f = tt
on_err_map (Err x) a f = f a

pub on_err_always : {T E : Type 0} {A : Type 0} (r : Result T E) → A → OnErr r A
on_err_always (Ok x) a = tt
on_err_always (Err x) a = a

abbrev length_in : Option Changed → World → ℕ
length_in None w = 0
length_in (Some c) w = front_length c w

pub shortens : (told base : Option World) (m n : Changes) (slept : ℕ) (name : List ℕ) (front len : ℕ) (first old new : Changed) → Stays told base → Some first ≡ get_by_text m name → Some old ≡ get_by_text m name → UpdatesAt name m n new
    → Holds base (λ w. front ≡ front_length first w) → Shortens front len old new → Becomes name (λ here. kept here len) (layer told m slept) (layer base n slept)
shortens told base m n slept name front len first old new s e' e u f g = record {
  base = s;
  does =
      holds_by (λ w. front ≡ front_length first w) (λ w. over n slept w ≡ world_with (over m slept w) name (kept ((over m slept w).nodes name) len)) base f
      (λ w same. put_over m n slept name new w (puts m n name new u) ∙ ap (world_with (over m slept w) name) (g w (same ∙ ap (λ c. length_in c w) (e' ∙ sym e)) ∙ ap (λ c. kept (stands c w name) len) e));
}
