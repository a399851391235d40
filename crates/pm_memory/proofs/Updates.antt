-- What a change at one name of a map makes of the world that it holds.
use Rattle.std.proofs.Common.{◌≡◌, ℕ, List, Option, Some, Result, Ok, Err, OnOk, OnErr, sym, ap, ◌∙◌, subst, take, String, Global, string_cmp, nat_cmp, string_bytes}
use Rattle.std.specs.BTreeMap.{BTreeMap, get_by_text}
use Rattle.std.specs.BTreeMap as tree
use Rattle.std.specs.Cmp.Lexicographic.{slice_cmp}
use Rattle.std.proofs.lemmas.Map.Text.{btree_map_updates_text}
use Rattle.pm_host.specs.World.{World, Step, IsFile, world_with, grown, kept}
use Rattle.pm_host.proofs.Put.{put_same}
use Rattle.pm_host.specs.declared.nodes.Node.{Node}
use Rattle.pm_host.specs.declared.calls.Call.TheVariants.{Append, Cut as CutTo}
use Rattle.pm_host.specs.declared.calls.Answer.TheVariants.{Append as AnswerAppend, Cut as AnswerCut}
use Rattle.pm_host.specs.declared.answers.Took.TheVariants.{Took as TookSome}
use Rattle.pm_host.specs.declared.answers.Cut.TheVariants.{Cut as CutDone}

-- what stands at each name that has something
abbrev pub NodeMap : Type 0
NodeMap = BTreeMap (String Global) Node

-- this world with the nodes that a map holds
abbrev pub world_at : NodeMap → World → World
world_at m w = record { nodes = λ name. get_by_text m name; moment = w.moment; others = w.others; children = w.children; inputs = w.inputs }

-- one name has another node
abbrev pub UpdatesAt : List ℕ → NodeMap → NodeMap → Option Node → Type 0
UpdatesAt name m n this = tree.UpdatesBy string_cmp (λ k. slice_cmp nat_cmp name (string_bytes k)) m n this

pub updated : (m n : NodeMap) (w : World) (name : List ℕ) (this : Option Node) → UpdatesAt name m n this → world_at n w ≡ world_with (world_at m w) name this
updated m n w name this u =
    let same = btree_map_updates_text name m n this u in
    λ i. record { nodes = λ q. same q i; moment = w.moment; others = w.others; children = w.children; inputs = w.inputs }

-- a node that was written back as it was
pub rewritten : (m n : NodeMap) (w : World) (name : List ℕ) (this : Node) → Some this ≡ get_by_text m name → UpdatesAt name m n (Some this) → world_at n w ≡ world_at m w
rewritten m n w name this e u = updated m n w name (Some this) u ∙ put_same (world_at m w) name (Some this) (sym e)

pub file_grew : (m n : NodeMap) (w : World) (name piece : List ℕ) (count : ℕ) (old new : Node) → Some old ≡ get_by_text m name → UpdatesAt name m n (Some new)
    → IsFile (Some old) → Some new ≡ grown (Some old) (take count piece) → Step (Append name piece) (AnswerAppend (TookSome count)) (world_at m w) (world_at n w)
file_grew m n w name piece count old new e u file g = record {
  right = subst IsFile e file;
  made = updated m n w name (Some new) u ∙ ap (world_with (world_at m w) name) (g ∙ ap (λ here. grown here (take count piece)) e);
}

pub file_cut : (m n : NodeMap) (w : World) (name : List ℕ) (len : ℕ) (old new : Node) → Some old ≡ get_by_text m name → UpdatesAt name m n (Some new)
    → IsFile (Some old) → Some new ≡ kept (Some old) len → Step (CutTo name len) (AnswerCut CutDone) (world_at m w) (world_at n w)
file_cut m n w name len old new e u file g = record {
  right = subst IsFile e file;
  made = updated m n w name (Some new) u ∙ ap (world_with (world_at m w) name) (g ∙ ap (λ here. kept here len) e);
}

pub on_ok_both : {T E : Type 0} {A B C : Type 0} (r : Result T E) → OnOk r A → OnOk r B → (A → B → C) → OnOk r C
on_ok_both (Ok x) a b f = f a b
on_ok_both (Err x) a b f = tt

pub on_err_then : {T E : Type 0} {A B : Type 0} (r : Result T E) → OnErr r A → (A → B) → OnErr r B
on_err_then (Ok x) a f = tt
on_err_then (Err x) a f = f a
