-- What moving a file makes of the world.
use Rattle.std.proofs.Common.{◌≡◌, ℕ, Bool, true, false, cond, List, Option, Some, None, refl, sym, ap, ◌∙◌, subst, bytes_eq}
use Rattle.std.proofs.lemmas.Slice.Eq.{bytes_eq-Decides}
use Rattle.std.proofs.lemmas.Map.Text.{btree_map_updates_text}
use Rattle.std.specs.BTreeMap.{get_by_text}
use Rattle.pm_host.proofs.Put.{get-put}
use Rattle.pm_host.specs.World.{World, Step, IsFile, IsThere, RenamesRight, world_with}
use Rattle.pm_host.specs.declared.nodes.Node.{Node}
use Rattle.pm_host.specs.declared.nodes.Node.TheVariants.{File as AFile, Folder as AFolder}
use Rattle.pm_host.specs.declared.calls.Call.TheVariants.{Rename}
use Rattle.pm_host.specs.declared.calls.Answer.TheVariants.{Rename as AnswerRename}
use Rattle.pm_host.specs.declared.answers.Moved.TheVariants.{Moved as MovedDone}
use Rattle.pm_memory.proofs.Updates.{NodeMap, UpdatesAt, updated, world_at}

pub there : (x : Option Node) → IsFile x → IsThere x
there (Some (AFile f)) h = tt
there (Some AFolder) h = absurd h
there None h = absurd h

-- a name with a file isn't one where nothing stands
pub apart : (w : World) (from to : List ℕ) → IsFile (w.nodes from) → None ≡ w.nodes to → bytes_eq from to ≡ false
apart w from to file free =
    elim (bytes_eq from to) as (λ b. bytes_eq from to ≡ b → b ≡ false) [
      | true ↦ λ t. absurd (subst IsFile (ap w.nodes ((bytes_eq-Decides from to).0 t) ∙ sym free) file)
      | false ↦ λ t. refl
    ] refl

-- what stands at another name is still there
pub still : (m n : NodeMap) (from to : List ℕ) → UpdatesAt from m n None → bytes_eq from to ≡ false → get_by_text n to ≡ get_by_text m to
still m n from to u e = btree_map_updates_text from m n None u to ∙ ap (λ b. cond b None (get_by_text m to)) e

pub gone : (m n : NodeMap) (from to : List ℕ) → UpdatesAt from m n None → bytes_eq from to ≡ false → IsThere (get_by_text m to) → None ≡ get_by_text n to → ⊥
gone m n from to u e place none = subst IsThere (sym (none ∙ still m n from to u e)) place

pub carried : (m n o : NodeMap) (w : World) (from to : List ℕ) (node : Node) → UpdatesAt from m n None → UpdatesAt to n o (Some node) → Some node ≡ get_by_text m from
    → world_at o w ≡ world_with (world_with (world_at m w) from None) to (get_by_text m from)
carried m n o w from to node u v e =
    updated n o w to (Some node) v ∙ ap (λ x. world_with x to (Some node)) (updated m n w from None u)
    ∙ ap (λ x. world_with (world_with (world_at m w) from None) to x) e

swapped : (a b : Bool) (folder this other : Option Node) → (a ≡ true → b ≡ true → ⊥) → cond a this (cond b None (cond a folder other)) ≡ cond b None (cond a this other)
swapped true true folder this other h = absurd (h refl refl)
swapped true false folder this other h = refl
swapped false true folder this other h = refl
swapped false false folder this other h = refl

differ : (from to q : List ℕ) → bytes_eq from to ≡ false → bytes_eq to q ≡ true → bytes_eq from q ≡ true → ⊥
differ from to q e t f =
    subst (λ b. elim b as (λ _. Type 0) [ true ↦ Unit {0} | false ↦ ⊥ ]) (sym ((bytes_eq-Decides from to).1 ((bytes_eq-Decides from q).0 f ∙ sym ((bytes_eq-Decides to q).0 t))) ∙ e) tt

at_new : (w : World) (from to : List ℕ) → bytes_eq to from ≡ false → (world_with w to (Some AFolder)).nodes from ≡ w.nodes from
at_new w from to e = ap (λ b. cond b (Some AFolder) (w.nodes from)) e

-- the file went over a folder that was put at the new name
moved_over : (w : World) (from to : List ℕ) → bytes_eq from to ≡ false
    → world_with (world_with (world_with w to (Some AFolder)) from None) to (w.nodes from) ≡ world_with (world_with w to (w.nodes from)) from None
moved_over w from to e =
    λ i. record { nodes = λ q. swapped (bytes_eq to q) (bytes_eq from q) (Some AFolder) (w.nodes from) (w.nodes q) (differ from to q e) i; moment = w.moment; others = w.others; children = w.children; inputs = w.inputs }

moves_right : (here there : Option Node) → IsFile here → None ≡ there → RenamesRight here there MovedDone
moves_right here there file e = subst (λ x. RenamesRight here x MovedDone) e file

swap_eq : (a b : List ℕ) → bytes_eq a b ≡ false → bytes_eq b a ≡ false
swap_eq a b e =
    elim (bytes_eq b a) as (λ x. bytes_eq b a ≡ x → x ≡ false) [
      | true ↦ λ t. sym ((bytes_eq-Decides a b).1 (sym ((bytes_eq-Decides b a).0 t))) ∙ e
      | false ↦ λ t. refl
    ] refl

pub moved : (w v x : World) (from to : List ℕ) → IsFile (w.nodes from) → None ≡ w.nodes to → v ≡ world_with w to (Some AFolder)
    → x ≡ world_with (world_with v from None) to (v.nodes from) → Step (Rename from to) (AnswerRename MovedDone) w x
moved w v x from to file free put carry =
    let e = apart w from to file free in record {
      right = moves_right (w.nodes from) (w.nodes to) file free;
      made = carry ∙ ap (λ u. world_with (world_with u from None) to (u.nodes from)) put
          ∙ ap (λ n. world_with (world_with (world_with w to (Some AFolder)) from None) to n) (at_new w from to (swap_eq from to e))
          ∙ moved_over w from to e;
    }

-- the file is still at its old name, and the folder at the new one
pub put_there : (w v : World) (from to : List ℕ) → IsFile (w.nodes from) → None ≡ w.nodes to → v ≡ world_with w to (Some AFolder) → IsThere (v.nodes from)
put_there w v from to file free put =
    there (v.nodes from) (subst IsFile (sym (ap (λ u. u.nodes from) put ∙ at_new w from to (swap_eq from to (apart w from to file free)))) file)

pub put_place : (w v : World) (to : List ℕ) → v ≡ world_with w to (Some AFolder) → IsThere (v.nodes to)
put_place w v to put = subst IsThere (sym (ap (λ u. u.nodes to) put ∙ get-put w to (Some AFolder))) tt
